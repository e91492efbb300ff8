use Rattle.golden_command.specs.Asked.{golden_said}
use Rattle.golden_command.proofs.Tellings.{golden_due, refused_due}
use Rattle.golden_command.proofs.finding.golden_document.Goals as goal

pub returns-in-Ok-clause-due : goal.returns-in-Ok-clause-due
returns-in-Ok-clause-due g c =
    golden_due (g.S.Shelf.texts c.args.shelf.now) (golden_said c.args.asked) c.in-Ok.read.tree c.in-Ok.read.spec
    c.printed_relation.result (c.in-Ok.ensures.stage tt) c.in-Ok.ensures.tree c.printed_relation.ensures.job

pub returns-in-Err-clause-due : goal.returns-in-Err-clause-due
returns-in-Err-clause-due g c = λ determined.
    refused_due (g.S.Shelf.texts c.args.shelf.now) (golden_said c.args.asked) c.in-Err.trouble
    (c.in-Err.ensures.stage determined)
