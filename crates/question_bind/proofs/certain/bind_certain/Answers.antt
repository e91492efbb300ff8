-- The question on the pairs is what is due.
use Rattle.question_bind.proofs.GroupSteps.{certain_bound, certain_fits, certain_no_read}
use Rattle.question_bind.proofs.certain.bind_certain.Goals as goal

pub returns-in-Ok-clause-bound : goal.returns-in-Ok-clause-bound
returns-in-Ok-clause-bound g c = λ determined.
    certain_bound (g.S.Shelf.texts c.args.shelf.now) c.args.spec.now.relations c.args.line c.args.trees.now
    c.in-Ok.pairs c.certain_of.result (c.in-Ok.ensures.asked tt) c.certain_of.ensures

pub returns-in-Ok-clause-fits : goal.returns-in-Ok-clause-fits
returns-in-Ok-clause-fits g c = certain_fits c.args.spec.now.relations c.args.line c.in-Ok.pairs c.certain_of.result
    c.in-Ok.ensures.fits c.certain_of.ensures

pub returns-in-Ok-clause-table_due : goal.returns-in-Ok-clause-table_due
returns-in-Ok-clause-table_due g c = λ name reads. absurd
    (certain_no_read c.args.line c.in-Ok.pairs c.certain_of.result name c.certain_of.ensures reads)
