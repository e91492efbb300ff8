use Rattle.std.proofs.Common.{◌≡◌, ◌∙◌, ◌-◌, Some, length, get_or, slice_get, ap, subst, sym, arith}
use Rattle.order_literals.specs.Layout.{AreLaidOut, starts_of}
use Rattle.order_literals.specs.Numbers.{Numbers}
use Rattle.order_literals.specs.Statements.{blocks_of}
use Rattle.order_literals.proofs.AllBlocks.{block_known}
use Rattle.order_literals.proofs.Kept.{count_of_starts, around, lies_in, stands_in}
use Rattle.order_literals.proofs.catalogue.Catalogue.statement.Goals as goal

pub block_at-place-requires : goal.block_at-place-requires
block_at-place-requires c =
    let n = c.args.self.now in
    let laid = subst (λ (m : Numbers). AreLaidOut m c.self.inside.firsts.items c.self.inside.blocks.items
    c.self.inside.starts.items) c.self.view_is c.self.invariant in
    around n c.deref.result.now c.args.var (c.deref.ensures.value ∙ laid.starts_are) c.requires

pub block_in-requires : goal.block_in-requires
block_in-requires c =
    let n = c.args.self.now in
    let laid = subst (λ (m : Numbers). AreLaidOut m c.self.inside.firsts.items c.self.inside.blocks.items
    c.self.inside.starts.items) c.self.view_is c.self.invariant in
    let starts = ap length (c.deref.ensures.value ∙ laid.starts_are) in
    let blocks = ap length (c.deref-3.ensures.value ∙ laid.blocks_are) in
    omega (arith, count_of_starts n (blocks_of n), c.block_at-place.ensures.within)

-- the block that was found
found : (c : goal.After-block_in) → slice_get (blocks_of c.args.self.now) c.block_at-place.result ≡ Some c.block_in.result
found c =
    let laid = subst (λ (m : Numbers). AreLaidOut m c.self.inside.firsts.items c.self.inside.blocks.items
    c.self.inside.starts.items) c.self.view_is c.self.invariant in
    rw (c.deref-3.ensures.value ∙ laid.blocks_are) at c.block_in.ensures

pub statement_in-requires-clause-block : goal.statement_in-requires-clause-block
statement_in-requires-clause-block c = block_known c.args.self.now c.block_at-place.result c.block_in.result (found c)

-- the start that was read
start : (c : goal.After-block_in) → c.start_at-start.result ≡ get_or c.deref.result.now c.block_at-place.result 0
start c =
    let same : c.deref-2.result.now ≡ c.deref.result.now = c.deref-2.ensures.value ∙ sym c.deref.ensures.value in
    rw same at c.start_at-start.ensures

pub statement_in-requires-clause-within : goal.statement_in-requires-clause-within
statement_in-requires-clause-within c =
    let n = c.args.self.now in
    let laid = subst (λ (m : Numbers). AreLaidOut m c.self.inside.firsts.items c.self.inside.blocks.items
    c.self.inside.starts.items) c.self.view_is c.self.invariant in
    rw (start c)
    (lies_in n c.deref.result.now c.args.var (c.deref.ensures.value ∙ laid.starts_are) c.requires
    c.block_at-place.result c.block_in.result
    c.block_at-place.ensures.within c.block_at-place.ensures.from c.block_at-place.ensures.to (found c))

pub returns : goal.returns
returns c =
    let n = c.args.self.now in
    let laid = subst (λ (m : Numbers). AreLaidOut m c.self.inside.firsts.items c.self.inside.blocks.items
    c.self.inside.starts.items) c.self.view_is c.self.invariant in
    let starts : c.deref.result.now ≡ starts_of n (blocks_of n) = c.deref.ensures.value ∙ laid.starts_are in
    let found = rw (c.deref-3.ensures.value ∙ laid.blocks_are) at c.block_in.ensures in
    let same : c.deref-2.result.now ≡ c.deref.result.now = c.deref-2.ensures.value ∙ sym c.deref.ensures.value in
    let start = rw same at c.start_at-start.ensures in
    let place = c.block_at-place.result in
    let inside = lies_in n c.deref.result.now c.args.var starts c.requires place c.block_in.result
    c.block_at-place.ensures.within c.block_at-place.ensures.from c.block_at-place.ensures.to found in
    let number = ap (λ s. c.args.var - s) start in
    stands_in n c.deref.result.now c.args.var starts c.requires place _ c.block_in.result found number
    c.block_at-place.ensures.from (rw start inside)
    ∙ c.statement_in.ensures
