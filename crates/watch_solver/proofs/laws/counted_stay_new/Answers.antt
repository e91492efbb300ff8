use Rattle.watch_solver.proofs.Grown.{stay_new}
use Rattle.watch_solver.proofs.laws.counted_stay_new.Goals as goal

pub returns : goal.returns
returns c = stay_new
