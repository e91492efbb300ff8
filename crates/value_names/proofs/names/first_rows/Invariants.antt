use Rattle.std.proofs.Common.{◌≡◌, map, take}
use Rattle.value_names.specs.Names.{firsts_of}
use Rattle.value_names.proofs.names.first_rows.Given as goal

abbrev pub invariant-loop-attr : goal.invariant-loop-attr
invariant-loop-attr l = l.firsts ≡ map firsts_of (take l.attr l.names)
