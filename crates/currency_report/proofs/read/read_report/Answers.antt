use Rattle.currency_report.proofs.Whole.{few, lines, numbered, refused, well_formed}
use Rattle.currency_report.proofs.read.read_report.Goals as goal

pub returns-in-Ok-clause-few : goal.returns-in-Ok-clause-few
returns-in-Ok-clause-few c =
    few c.args.spec.now.relations c.args.source.now c.in-Ok.tree c.report_said.result c.in-Ok.ensures.read
    c.report_said.ensures.due

pub returns-in-Ok-clause-numbered : goal.returns-in-Ok-clause-numbered
returns-in-Ok-clause-numbered c =
    numbered c.args.spec.now.relations c.args.source.now c.in-Ok.tree c.report_said.result c.in-Ok.ensures.read
    c.report_said.ensures.due
    c.literals_are_of_statements.ensures

pub returns-in-Ok-clause-well_formed : goal.returns-in-Ok-clause-well_formed
returns-in-Ok-clause-well_formed c =
    well_formed c.args.spec.now.relations c.args.source.now c.in-Ok.tree c.report_said.result c.report_said.ensures.due

pub returns-in-Ok-clause-lines : goal.returns-in-Ok-clause-lines
returns-in-Ok-clause-lines c =
    lines c.args.spec.now.relations c.args.source.now c.in-Ok.tree c.report_said.result c.in-Ok.ensures.read
    c.report_said.ensures.due

pub returns-in-Ok-clause-refused : goal.returns-in-Ok-clause-refused
returns-in-Ok-clause-refused c =
    refused c.args.spec.now.relations c.args.source.now c.in-Ok.tree c.report_said.result c.in-Ok.ensures.read
    c.report_said.ensures.due
