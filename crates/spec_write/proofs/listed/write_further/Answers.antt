use Rattle.std.proofs.Common.{◌++◌, ◌∙◌}
use Rattle.spec_write.specs.Pieces.{separator_pieces}
use Rattle.spec_write.proofs.ManyItems.{both_written, many_more}
use Rattle.spec_write.proofs.listed.write_further.Goals as goal

pub loop-item-preserved : goal.loop-item-preserved
loop-item-preserved g c =
    let separator = separator_pieces c.args.separator in
    let item = c.item-item.result in
    let one = both_written c.loop-item.into _ _ separator (g.W.Written.pieces item) c.in_ok-write_separator.ensures
    c.in_ok-write.ensures in
    many_more (λ y. separator ++ g.W.Written.pieces y) c.args.items.now c.loop-item.item-index item _ _
    c.loop-item-test.true c.item-item.is one
    ∙ c.loop-item.invariant
