use Rattle.report_stages.specs.Judged.{IsReportSaid}
use Rattle.command_stages.proofs.WholeTexts.{of_whole_document}
use Rattle.report_stages.proofs.judging.read_the_report.Goals as goal

pub returns-clause-stage : goal.returns-clause-stage
returns-clause-stage g c determined =
    of_whole_document (g.S.Shelf.texts c.args.shelf.now) c.args.name.now c.in-Ok.bytes.items
    (λ b. IsReportSaid c.args.spec.now.relations c.args.name.now b c.report_said.result)
    c.in-Ok.ensures.whole (rw c.as_slice.ensures.value at (c.report_said.ensures.said determined))
