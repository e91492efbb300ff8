use Rattle.std.proofs.Common.{All, take}
use Rattle.report_verify.proofs.needs.check_pairs.Given as goal
use Rattle.report_verify.specs.Supported.{IsDerived, pair_needs}

abbrev pub invariant-loop-place : goal.invariant-loop-place
invariant-loop-place l = All (IsDerived l.units.relations l.units.log) (take l.place (pair_needs l.pairs))
