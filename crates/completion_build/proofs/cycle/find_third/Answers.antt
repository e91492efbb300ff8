use Rattle.std.proofs.Common.{arith}
use Rattle.completion_build.proofs.cycle.find_third.Goals as goal

pub returns-clause-none : goal.returns-clause-none
returns-clause-none c = λ k below. c.loop-third.invariant k (omega (arith, c.len-third-end.ensures))
