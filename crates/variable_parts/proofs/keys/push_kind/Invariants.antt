use Rattle.std.proofs.Common.{◌≡◌, ◌++◌}
use Rattle.variable_parts.specs.Told.{numbers_in}
use Rattle.variable_parts.proofs.BlockKeys.{kind_keys, rels_left}
use Rattle.variable_parts.proofs.keys.push_kind.Given as goal

abbrev pub invariant-loop-rel : goal.invariant-loop-rel
invariant-loop-rel l =
    l.keys.items ++ rels_left l.source l.kind (numbers_in l.source).tables l.rel
    ≡ l.initial.keys.items ++ kind_keys l.source l.kind
