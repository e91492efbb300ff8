use Rattle.minimal_items.proofs.Reductions.{spent_with}
use Rattle.minimal_items.proofs.reducing.reduce_listed.Goals as goal

pub returns-in_ok-spent_on-in-Ok-Open : goal.returns-in_ok-spent_on-in-Ok-Open
returns-in_ok-spent_on-in-Ok-Open g c =
    spent_with c.args.spec.now c.args.question.now c.args.marks.now c.args.budget c.args.items.now c.in-Ok-Open.field-0
    c.in-Ok-Open.part c.in-Ok-Open.report c.in_ok-spent_on-in-Ok-Open.field-0 c.requires.items c.in-Ok-Open.ensures
    c.in-Ok-Open.field-0-is c.in_ok-spent_on-in-Ok-Open.ensures
