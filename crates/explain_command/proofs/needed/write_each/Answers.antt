use Rattle.std.proofs.Common.{◌∙◌, ap}
use Rattle.minimal_items.specs.declared.needed.Needed.{Needed}
use Rattle.text_write.specs.Spacing.{writes_all}
use Rattle.explain_command.specs.Text.{later_pieces}
use Rattle.item_write.proofs.Listing.{list_more}
use Rattle.explain_command.proofs.needed.write_each.Goals as goal

pub loop-needed-preserved : goal.loop-needed-preserved
loop-needed-preserved c =
    let pieces = later_pieces c.args.spec.now c.args.first.now.without in
    list_more pieces c.args.later.now c.loop-needed.needed-index c.needed-item.result _ _ c.loop-needed-test.true
    (c.in_ok-write_without.ensures
    ∙ ap (λ (n : Needed). writes_all c.loop-needed.into (pieces n)) c.needed-item.is)
    ∙ c.loop-needed.invariant
