use Rattle.std.proofs.Common.{◌∙◌}
use Rattle.log_write.proofs.Writing.{item_more}
use Rattle.log_write.proofs.many.write_many.Goals as goal

pub loop-item-preserved : goal.loop-item-preserved
loop-item-preserved g c =
    item_more g.W.Written.pieces c.args.items.now c.loop-item.item-index c.item-item.result _ _ c.loop-item-test.true
    c.item-item.is c.in_ok-write.ensures
    ∙ c.loop-item.invariant
