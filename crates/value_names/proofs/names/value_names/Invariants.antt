use Rattle.std.proofs.Common.{◌≡◌, map}
use Rattle.std.specs.List.{range_with_len}
use Rattle.value_names.specs.Names.{names_of}
use Rattle.value_names.proofs.names.value_names.Given as goal

abbrev pub invariant-loop-attr : goal.invariant-loop-attr
invariant-loop-attr l = l.names ≡ map (names_of l.relation.rows) (range_with_len 0 l.attr)
