use Rattle.completion_fill.proofs.Shapes.{alike}
use Rattle.report_write.proofs.Differing.{differing_on, writable_on}
use Rattle.report_write.proofs.completion.write_later.Goals as goal

pub differing-requires : goal.differing-requires
differing-requires c = alike c.args.spec.now.relations c.args.first.now c.args.completion.now c.requires.first
    c.requires.later.shape

pub write_shown-requires : goal.write_shown-requires
write_shown-requires c =
    rw c.differing.ensures
    (differing_on c.args.spec.now.relations c.args.first.now c.args.completion.now c.requires.first
    (writable_on c.args.spec.now.relations c.args.completion.now c.requires.later))
