use Rattle.std.proofs.Common.{◌≡◌, ◌==◌, ◌++◌, map, not, drop}
use Rattle.std.specs.List.{filter}
use Rattle.log_axioms.specs.Axioms.{not_before}
use Rattle.log_axioms.proofs.clauses.add_not_before.Given as goal

abbrev pub invariant-loop-other : goal.invariant-loop-other
invariant-loop-other l =
    l.clause ++ map (λ other. not_before l.rel l.attr other l.row) (filter (λ other. not (l.row.0 == other.0))
    (drop l.other-index l.members))
    ≡ l.initial.clause ++ map (λ other. not_before l.rel l.attr other l.row)
    (filter (λ other. not (l.row.0 == other.0)) l.members)
