use Rattle.report_stages.proofs.PartLines.{part_there}
use Rattle.report_stages.proofs.judging.judge.Goals as goal

pub of-requires : goal.of-requires
of-requires c =
    part_there c.args.spec.now c.args.question.now c.args.read.now.report c.args.read.now.lines c.in-Err-Refused.part
    c.in-Err-Refused.why c.requires.lines
    (rw c.in-Err-Refused.field-0-is at c.in-Err-Refused.ensures.refused)
