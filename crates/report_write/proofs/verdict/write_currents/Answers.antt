use Rattle.std.proofs.Common.{◌∙◌}
use Rattle.report_write.specs.Pieces.{current_pieces}
use Rattle.report_write.proofs.Listing.{list_more}
use Rattle.report_write.proofs.verdict.write_currents.Goals as goal

pub loop-item-preserved : goal.loop-item-preserved
loop-item-preserved c =
    list_more (current_pieces c.args.relations.now) c.args.items.now c.loop-item.item-index c.item-item.result _ _
    c.loop-item-test.true c.item-item.is
    c.in_ok-write_current.ensures
    ∙ c.loop-item.invariant
