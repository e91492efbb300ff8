use Rattle.std.proofs.Common.{◌≡◌, ◌∙◌, length, ap, subst, arith}
use Rattle.order_literals.specs.Layout.{AreLaidOut, starts_of}
use Rattle.order_literals.specs.Numbers.{Numbers}
use Rattle.order_literals.specs.Statements.{blocks_of}
use Rattle.order_literals.proofs.Kept.{count_of_starts, end_read}
use Rattle.order_literals.proofs.catalogue.Catalogue.len.Goals as goal

pub start_at-requires : goal.start_at-requires
start_at-requires c =
    let n = c.args.self.now in
    let laid = subst (λ (m : Numbers). AreLaidOut m c.self.inside.firsts.items c.self.inside.blocks.items
    c.self.inside.starts.items) c.self.view_is c.self.invariant in
    let many = ap length (c.deref.ensures.value ∙ laid.starts_are) in
    omega (arith, count_of_starts n (blocks_of n), ap length laid.blocks_are, c.self.inside.blocks.ok.0)

pub returns-clause-value : goal.returns-clause-value
returns-clause-value c =
    let n = c.args.self.now in
    let laid = subst (λ (m : Numbers). AreLaidOut m c.self.inside.firsts.items c.self.inside.blocks.items
    c.self.inside.starts.items) c.self.view_is c.self.invariant in
    let these : c.deref.result.now ≡ starts_of n (blocks_of n) = c.deref.ensures.value ∙ laid.starts_are in
    let place : c.len.result ≡ length (blocks_of n) = omega (arith, ap length laid.blocks_are, c.self.inside.blocks.ok.0) in
    let start = rw (these, place) at c.start_at.ensures in
    start ∙ end_read n

pub returns-clause-few : goal.returns-clause-few
returns-clause-few c =
    let laid = subst (λ (m : Numbers). AreLaidOut m c.self.inside.firsts.items c.self.inside.blocks.items
    c.self.inside.starts.items) c.self.view_is c.self.invariant in
    omega (arith, returns-clause-value c, laid.few)
