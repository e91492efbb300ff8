use Rattle.conflicts_command.specs.Found.{conflicts_said}
use Rattle.conflicts_command.proofs.FoundTexts.{conflicts_due, conflicts_printed}
use Rattle.conflicts_command.proofs.finding.conflicts_document.Goals as goal

pub returns-in-Ok-clause-due : goal.returns-in-Ok-clause-due
returns-in-Ok-clause-due g c =
    conflicts_due (g.S.Shelf.texts c.args.shelf.now) (conflicts_said c.args.asked) c.in-Ok.spec c.printed_conflicts.result
    (c.in-Ok.ensures.stage tt) c.printed_conflicts.ensures.job

pub returns-in-Ok-clause-printed : goal.returns-in-Ok-clause-printed
returns-in-Ok-clause-printed g c =
    conflicts_printed (g.S.Shelf.texts c.args.shelf.now) (conflicts_said c.args.asked) c.in-Ok.spec c.printed_conflicts.result
    (c.in-Ok.ensures.stage tt) c.printed_conflicts.ensures.job
