use Rattle.std.proofs.Common.{◌≡◌, ◌++◌, map, drop}
use Rattle.std.specs.List.{filter}
use Rattle.log_axioms.specs.Axioms.{top, same_value}
use Rattle.log_axioms.proofs.clauses.add_alike.Given as goal

abbrev pub invariant-loop-other : goal.invariant-loop-other
invariant-loop-other l =
    l.clause ++ map (top l.rel l.attr) (filter (same_value l.relation.rows l.attr.0 l.row) (drop l.other-index l.members))
    ≡ l.initial.clause ++ map (top l.rel l.attr) (filter (same_value l.relation.rows l.attr.0 l.row) l.members)
