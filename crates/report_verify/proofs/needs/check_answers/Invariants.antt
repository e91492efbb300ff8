use Rattle.std.proofs.Common.{All, take}
use Rattle.report_verify.proofs.needs.check_answers.Given as goal
use Rattle.report_verify.specs.Supported.{IsDerived, answer_needs}

abbrev pub invariant-loop-place : goal.invariant-loop-place
invariant-loop-place l = All (IsDerived l.units.relations l.units.log) (take l.place (answer_needs 0 l.tuples))
