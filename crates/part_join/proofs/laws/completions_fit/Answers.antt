use Rattle.part_join.proofs.Fitting.{completions_fit}
use Rattle.part_join.proofs.laws.completions_fit.Goals as goal

pub returns : goal.returns
returns c = completions_fit
