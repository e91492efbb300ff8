use Rattle.report_stages.proofs.ShownReports.{report_shown}
use Rattle.report_stages.proofs.judging.judge_document.Goals as goal

pub returns-in-Ok-clause-right : goal.returns-in-Ok-clause-right
returns-in-Ok-clause-right g c =
    report_shown (g.S.Shelf.texts c.args.shelf.now) c.args.spec.now c.args.question.now c.args.name.now c.in-Ok.read
    c.judge.result
    (c.in-Ok.ensures.stage tt) c.judge.ensures.shown c.judge.ensures.kind c.judge.ensures.right
