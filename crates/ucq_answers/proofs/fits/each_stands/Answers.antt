use Rattle.std.proofs.Common.{below_more, refl}
use Rattle.query_model.specs.Fitting.{StandsIn}
use Rattle.ucq_answers.proofs.fits.each_stands.Goals as goal

pub loop-var-preserved : goal.loop-var-preserved
loop-var-preserved c = below_more (StandsIn c.args.atoms.now) c.loop-var.var c.loop-var.invariant
    (c.if-not-stands_in.ensures.0 refl)
