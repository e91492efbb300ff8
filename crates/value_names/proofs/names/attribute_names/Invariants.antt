use Rattle.std.proofs.Common.{◌≡◌, map}
use Rattle.value_names.specs.Names.{name_of, row_ids}
use Rattle.value_names.proofs.names.attribute_names.Given as goal

abbrev pub invariant-loop-at : goal.invariant-loop-at
invariant-loop-at l = l.names ≡ map (name_of l.rows l.attr) (row_ids l.at)
