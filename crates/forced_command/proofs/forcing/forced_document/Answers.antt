use Rattle.forced_command.proofs.ForcedTexts.{forced_due, forced_printed}
use Rattle.forced_command.proofs.forcing.forced_document.Goals as goal

pub returns-in-Ok-clause-due : goal.returns-in-Ok-clause-due
returns-in-Ok-clause-due g c =
    forced_due (g.S.Shelf.texts c.args.shelf.now) c.args.name.now c.in-Ok.spec c.printed_forced.result
    (c.in-Ok.ensures.stage tt) c.printed_forced.ensures.job

pub returns-in-Ok-clause-printed : goal.returns-in-Ok-clause-printed
returns-in-Ok-clause-printed g c =
    forced_printed (g.S.Shelf.texts c.args.shelf.now) c.args.name.now c.in-Ok.spec c.printed_forced.result
    (c.in-Ok.ensures.stage tt) c.printed_forced.ensures.job
