use Rattle.std.proofs.Common.{◌∙◌}
use Rattle.item_write.specs.Pieces.{item_pieces}
use Rattle.item_write.proofs.Listing.{list_more}
use Rattle.item_write.proofs.item.write_items.Goals as goal

pub loop-item-preserved : goal.loop-item-preserved
loop-item-preserved c =
    list_more (item_pieces c.args.spec.now) c.args.items.now c.loop-item.item-index _ _ _ c.loop-item-test.true
    c.in_ok-write_item.ensures
    ∙ c.loop-item.invariant
