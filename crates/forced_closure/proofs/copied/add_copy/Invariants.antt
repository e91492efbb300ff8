use Rattle.forced_closure.specs.Clauses.{Adds, OfPlaces}
use Rattle.forced_closure.proofs.copied.add_copy.Given as goal

abbrev pub invariant-loop-place : goal.invariant-loop-place
invariant-loop-place l = Adds l.subject l.initial.gathered l.gathered (OfPlaces l.subject l.copy l.place)
