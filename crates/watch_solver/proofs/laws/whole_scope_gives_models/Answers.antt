use Rattle.watch_solver.proofs.Truths.{is_model}
use Rattle.watch_solver.proofs.laws.whole_scope_gives_models.Goals as goal

pub returns : goal.returns
returns c = is_model
