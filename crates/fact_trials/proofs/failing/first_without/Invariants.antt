-- The empty tuple is an answer over each completion so far.
use Rattle.std.proofs.Common.{[], All, take}
use Rattle.answer_laws.specs.Answered.{IsAnswerIn}
use Rattle.fact_trials.proofs.failing.first_without.Given as goal

abbrev pub invariant-loop-place : goal.invariant-loop-place
invariant-loop-place l = All (IsAnswerIn l.spec.relations l.query []) (take l.place l.completions)
