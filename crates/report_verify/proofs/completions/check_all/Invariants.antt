use Rattle.std.proofs.Common.{All, take}
use Rattle.completion_check.specs.Room.{HasRoom}
use Rattle.spec_model.specs.Consistent.{IsConsistent}
use Rattle.report_verify.proofs.completions.check_all.Given as goal

abbrev pub invariant-loop-place : goal.invariant-loop-place
invariant-loop-place l = record {
  consistent : All (IsConsistent l.spec) (take l.place l.completions);
  room : HasRoom l.spec.relations l.scratch;
}
