use Rattle.std.proofs.Common.{◌<◌, ◌*◌, ◌-◌, ℕ, List, length, sym, ap, subst, arith}
use Rattle.currency_base.specs.declared.ids.RowId.{RowId}
use Rattle.horn_closure.specs.Least.{cells_of}
use Rattle.order_squares.specs.Squares.{Layout, AreRowsAt, IsSlot}
use Rattle.order_squares.proofs.Layouts.{bases_ascend, found_in, found_within, square_read, within_square, found_slot}
use Rattle.order_squares.proofs.squares.Squares.pair_at.Goals as goal

pub last_up_to-number-requires-clause-ascend : goal.last_up_to-number-requires-clause-ascend
last_up_to-number-requires-clause-ascend c = rw c.deref.ensures.value (bases_ascend _ _ c.self.invariant.bases_are)

pub index-square-requires : goal.index-square-requires
index-square-requires c =
    let inside = c.self.inside in
    let l : Layout = record { relations = inside.groups; squares = inside.squares.items; sizes = inside.sizes.items } in
    let few : c.args.slot < cells_of inside.sizes.items = subst (λ (x : Layout). c.args.slot < cells_of x.sizes)
    (sym c.self.view_is) c.requires in
    let k = c.last_up_to-number.result in
    let within = found_within l inside.starts inside.bases.items c.deref.result.now c.self.invariant
    c.deref.ensures.value k c.args.slot few
    c.last_up_to-number.ensures.within c.last_up_to-number.ensures.up_to c.last_up_to-number.ensures.last in
    omega (arith, within, inside.squares.ok.0)

pub members-members-requires : goal.members-members-requires
members-members-requires c =
    let inside = c.self.inside in
    let l : Layout = record { relations = inside.groups; squares = inside.squares.items; sizes = inside.sizes.items } in
    let few : c.args.slot < cells_of inside.sizes.items = subst (λ (x : Layout). c.args.slot < cells_of x.sizes)
    (sym c.self.view_is) c.requires in
    let k = c.last_up_to-number.result in
    let within = found_within l inside.starts inside.bases.items c.deref.result.now c.self.invariant
    c.deref.ensures.value k c.args.slot few
    c.last_up_to-number.ensures.within c.last_up_to-number.ensures.up_to c.last_up_to-number.ensures.last in
    let q = c.index-square.result.now in
    let at = square_read inside.squares.items k q within c.index-square.ensures in
    (c.self.invariant.listed.are_squares.each k q at).within

pub rows_at-requires : goal.rows_at-requires
rows_at-requires c =
    let inside = c.self.inside in
    let l : Layout = record { relations = inside.groups; squares = inside.squares.items; sizes = inside.sizes.items } in
    let few : c.args.slot < cells_of inside.sizes.items = subst (λ (x : Layout). c.args.slot < cells_of x.sizes)
    (sym c.self.view_is) c.requires in
    let k = c.last_up_to-number.result in
    let within = found_within l inside.starts inside.bases.items c.deref.result.now c.self.invariant
    c.deref.ensures.value k c.args.slot few
    c.last_up_to-number.ensures.within c.last_up_to-number.ensures.up_to c.last_up_to-number.ensures.last in
    let q = c.index-square.result.now in
    let at = square_read inside.squares.items k q within c.index-square.ensures in
    let f = found_in l inside.starts inside.bases.items c.deref.result.now c.self.invariant c.deref.ensures.value k
    c.index.result.now c.args.slot few
    c.last_up_to-number.ensures.within c.last_up_to-number.ensures.up_to c.last_up_to-number.ensures.last c.index.ensures in
    let w = within_square l inside.starts inside.bases.items c.self.invariant q k c.index.result.now c.args.slot at f in
    let cell : ℕ = c.args.slot - c.index.result.now in
    subst (λ (n : ℕ). cell < n * n) (ap length (sym c.members-members.ensures.value)) w.cell_in

pub returns : goal.returns
returns c =
    let inside = c.self.inside in
    let l : Layout = record { relations = inside.groups; squares = inside.squares.items; sizes = inside.sizes.items } in
    let few : c.args.slot < cells_of inside.sizes.items = subst (λ (x : Layout). c.args.slot < cells_of x.sizes)
    (sym c.self.view_is) c.requires in
    let k = c.last_up_to-number.result in
    let within = found_within l inside.starts inside.bases.items c.deref.result.now c.self.invariant
    c.deref.ensures.value k c.args.slot few
    c.last_up_to-number.ensures.within c.last_up_to-number.ensures.up_to c.last_up_to-number.ensures.last in
    let q = c.index-square.result.now in
    let at = square_read inside.squares.items k q within c.index-square.ensures in
    let f = found_in l inside.starts inside.bases.items c.deref.result.now c.self.invariant c.deref.ensures.value k
    c.index.result.now c.args.slot few
    c.last_up_to-number.ensures.within c.last_up_to-number.ensures.up_to c.last_up_to-number.ensures.last c.index.ensures in
    let w = within_square l inside.starts inside.bases.items c.self.invariant q k c.index.result.now c.args.slot at f in
    let rows = subst (λ (m : List RowId). AreRowsAt m (c.args.slot - c.index.result.now) c.rows_at.result.0
    c.rows_at.result.1) c.members-members.ensures.value c.rows_at.ensures in
    let slot = found_slot l q k c.index.result.now c.args.slot c.rows_at.result.0 c.rows_at.result.1 at f w rows in
    subst (λ (x : Layout). IsSlot x q.rel.0 q.attr.0 c.rows_at.result.0 c.rows_at.result.1 c.args.slot) c.self.view_is slot
