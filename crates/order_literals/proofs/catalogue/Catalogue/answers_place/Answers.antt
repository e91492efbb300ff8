use Rattle.std.proofs.Common.{◌≡◌, length, ap, subst, arith}
use Rattle.order_literals.specs.Layout.{AreLaidOut}
use Rattle.order_literals.specs.Numbers.{Numbers}
use Rattle.order_literals.specs.Statements.{blocks_of}
use Rattle.order_literals.proofs.AllBlocks.{answers_block}
use Rattle.order_literals.proofs.catalogue.Catalogue.answers_place.Goals as goal

pub returns : goal.returns
returns c =
    let n = c.args.self.now in
    let laid = subst (λ (m : Numbers). AreLaidOut m c.self.inside.firsts.items c.self.inside.blocks.items
    c.self.inside.starts.items) c.self.view_is c.self.invariant in
    let place : c.len.result ≡ length (blocks_of n) = omega (arith, ap length laid.blocks_are, c.self.inside.blocks.ok.0) in
    rw place (answers_block n)
