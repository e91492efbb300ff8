use Rattle.std.proofs.Common.{◌∙◌}
use Rattle.conflicts_command.specs.Listed.{IsListed}
use Rattle.conflicts_command.proofs.OwnItems.{item_at}
use Rattle.conflicts_command.specs.Text.{conflict_pieces}
use Rattle.conflicts_command.proofs.Written.{one_more}
use Rattle.conflicts_command.proofs.writing.write_each.Goals as goal

pub loop-conflict-preserved : goal.loop-conflict-preserved
loop-conflict-preserved c =
    one_more conflict_pieces c.args.found.now c.loop-conflict.conflict-index c.conflict-item.result _ _
    c.loop-conflict-test.true c.conflict-item.is c.in_ok-write_conflict.ensures
    ∙ c.loop-conflict.invariant

pub write_conflict-requires : goal.write_conflict-requires
write_conflict-requires c =
    item_at IsListed c.args.found.now c.loop-conflict.conflict-index c.conflict-item.result c.loop-conflict-test.true
    c.conflict-item.is c.requires
