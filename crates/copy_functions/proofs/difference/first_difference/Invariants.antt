-- The first difference at the places that are left is the first of all.
use Rattle.std.proofs.Common.{◌≡◌, drop}
use Rattle.copy_functions.specs.Faults.{first_difference}
use Rattle.copy_functions.proofs.difference.first_difference.Given as goal

abbrev pub invariant-loop-at : goal.invariant-loop-at
invariant-loop-at l = first_difference l.at (drop l.at l.places) l.target l.source ≡ first_difference 0 l.places l.target l.source
