use Rattle.certain_answers.specs.Deciding.{AreMatchesOver}
use Rattle.certain_answers.proofs.matches.matches_of.Given as goal

abbrev pub invariant-loop-place : goal.invariant-loop-place
invariant-loop-place l = AreMatchesOver l.indexed l.tuples l.place l.matches
