use Rattle.std.proofs.Common.{refl}
use Rattle.watch_solver.proofs.Grown.{grown_none}
use Rattle.watch_solver.proofs.solver.Solver.decide.Goals as goal

pub returns-then-self-clause-grown : goal.returns-then-self-clause-grown
returns-then-self-clause-grown g c = grown_none _ _ _ refl
