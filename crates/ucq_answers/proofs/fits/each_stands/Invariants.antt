use Rattle.std.proofs.Common.{ℕ, ◌<◌}
use Rattle.query_model.specs.Fitting.{StandsIn}
use Rattle.ucq_answers.proofs.fits.each_stands.Given as goal

abbrev pub invariant-loop-var : goal.invariant-loop-var
invariant-loop-var l = (v : ℕ) → v < l.var → StandsIn l.atoms v
