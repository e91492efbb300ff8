use Rattle.forced_closure.specs.Clauses.{Adds, OfPairs}
use Rattle.forced_closure.proofs.copied.add_place.Given as goal

abbrev pub invariant-loop-pair : goal.invariant-loop-pair
invariant-loop-pair l = Adds l.subject l.initial.gathered l.gathered (OfPairs l.copy l.place l.pair-items l.pair-index)
