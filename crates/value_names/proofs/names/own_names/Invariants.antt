use Rattle.std.proofs.Common.{◌≡◌, ◌++◌, drop}
use Rattle.value_names.specs.Names.{firsts_from, firsts_of}
use Rattle.value_names.proofs.names.own_names.Given as goal

abbrev pub invariant-loop-at : goal.invariant-loop-at
invariant-loop-at l = l.firsts ++ firsts_from l.at (drop l.at l.names) ≡ firsts_of l.names
