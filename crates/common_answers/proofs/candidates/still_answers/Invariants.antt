use Rattle.std.proofs.Common.{take}
use Rattle.common_answers.proofs.Places.{AreStill}
use Rattle.common_answers.proofs.candidates.still_answers.Given as goal
use Rattle.query_model.specs.Answers.{IsAnswer}

abbrev pub invariant-loop-place : goal.invariant-loop-place
invariant-loop-place l =
    AreStill (IsAnswer l.indexed.query l.indexed.instance) l.tuples (take l.place-index l.places) l.kept.items
