use Rattle.std.proofs.Common.{◌∙◌, Contains}
use Rattle.minimal_items.specs.declared.needed.Needed.{Needed}
use Rattle.spec_items.specs.Items.{items_of}
use Rattle.conflicts_command.proofs.OwnItems.{item_at}
use Rattle.conflicts_command.proofs.Written.{needed_more}
use Rattle.conflicts_command.proofs.writing.write_needed.Goals as goal

pub loop-one-preserved : goal.loop-one-preserved
loop-one-preserved c =
    needed_more c.args.part.now c.args.needed.now c.loop-one.one-index c.one-item.result _ _ c.loop-one-test.true
    c.one-item.is c.in_ok-write_item.ensures
    ∙ c.loop-one.invariant

pub write_item-requires : goal.write_item-requires
write_item-requires c =
    item_at (λ (n : Needed). Contains (items_of c.args.part.now) n.item) c.args.needed.now c.loop-one.one-index
    c.one-item.result c.loop-one-test.true c.one-item.is c.requires
