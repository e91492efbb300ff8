use Rattle.std.proofs.Common.{◌≡◌, ◌∷◌, ◌++◌, [], rules}
use Rattle.order_literals.specs.Layout.{block_of}
use Rattle.order_literals.proofs.Lengths.{put_after}
use Rattle.order_literals.proofs.blocks.push_relation.Goals as goal

pub loop-attr-preserved : goal.loop-attr-preserved
loop-attr-preserved c =
    let pushed : c.push.new.self.items ≡ c.loop-attr.blocks.items ++ c.block.result ∷ [] = search rules in
    put_after (λ attr. block_of c.args.kind c.args.rel (record { 0 = attr })) c.loop-attr.attr _ _ _ _
    c.loop-attr.invariant c.block.ensures pushed
