use Rattle.log_trim.specs.Place.{AreStepsInPlace}
use Rattle.log_trim.proofs.place.are_steps_in_place.Given as goal

abbrev pub invariant-loop-place : goal.invariant-loop-place
invariant-loop-place l = AreStepsInPlace l.statements l.place l.steps
