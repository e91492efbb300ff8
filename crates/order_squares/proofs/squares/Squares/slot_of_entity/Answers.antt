use Rattle.std.proofs.Common.{get_or, ap, subst, ◌∙◌}
use Rattle.order_squares.specs.Squares.{Layout, IsLaidOut, square_at}
use Rattle.order_squares.proofs.Layouts.{placed, place_of, place_within, made_slot}
use Rattle.order_squares.proofs.squares.Squares.slot_of_entity.Goals as goal

pub slot_in-requires-clause-row : goal.slot_in-requires-clause-row
slot_in-requires-clause-row c =
    let is = subst (λ l. IsLaidOut l c.self.inside.starts c.self.inside.bases.items) c.self.view_is c.self.invariant in
    let sizes = ap (λ (l : Layout). get_or l.sizes c.number-square.result c.index-2.result.now) c.self.view_is in
    let at = placed c.args.self.now c.self.inside.starts c.self.inside.bases.items is _ c.number-square.result
    c.index.result.now c.index-2.result.now
    c.number-square.ensures c.index.ensures (c.index-2.ensures ∙ sizes) in
    place_within c.args.self.now (square_at c.args.rel.0 c.args.pair.attr.0 c.args.ent.0) c.number-square.result
    c.index.result.now c.index-2.result.now c.place-row.result
    c.args.pair.earlier at (place_of c.self.inside.groups c.args.self.now.relations c.args.rel.0 c.args.ent.0
    c.place-row.result c.args.pair.earlier (ap (λ (l : Layout). l.relations) c.self.view_is)
    c.place-row.ensures c.requires.earlier)

pub slot_in-requires-clause-column : goal.slot_in-requires-clause-column
slot_in-requires-clause-column c =
    let is = subst (λ l. IsLaidOut l c.self.inside.starts c.self.inside.bases.items) c.self.view_is c.self.invariant in
    let sizes = ap (λ (l : Layout). get_or l.sizes c.number-square.result c.index-2.result.now) c.self.view_is in
    let at = placed c.args.self.now c.self.inside.starts c.self.inside.bases.items is _ c.number-square.result
    c.index.result.now c.index-2.result.now
    c.number-square.ensures c.index.ensures (c.index-2.ensures ∙ sizes) in
    place_within c.args.self.now (square_at c.args.rel.0 c.args.pair.attr.0 c.args.ent.0) c.number-square.result
    c.index.result.now c.index-2.result.now c.place-column.result
    c.args.pair.later at (place_of c.self.inside.groups c.args.self.now.relations c.args.rel.0 c.args.ent.0
    c.place-column.result c.args.pair.later (ap (λ (l : Layout). l.relations) c.self.view_is)
    c.place-column.ensures c.requires.later)

pub slot_in-requires-clause-few : goal.slot_in-requires-clause-few
slot_in-requires-clause-few c =
    let is = subst (λ l. IsLaidOut l c.self.inside.starts c.self.inside.bases.items) c.self.view_is c.self.invariant in
    let sizes = ap (λ (l : Layout). get_or l.sizes c.number-square.result c.index-2.result.now) c.self.view_is in
    (placed c.args.self.now c.self.inside.starts c.self.inside.bases.items is _ c.number-square.result
    c.index.result.now c.index-2.result.now
    c.number-square.ensures c.index.ensures (c.index-2.ensures ∙ sizes)).room

pub returns : goal.returns
returns c =
    let is = subst (λ l. IsLaidOut l c.self.inside.starts c.self.inside.bases.items) c.self.view_is c.self.invariant in
    let sizes = ap (λ (l : Layout). get_or l.sizes c.number-square.result c.index-2.result.now) c.self.view_is in
    let at = placed c.args.self.now c.self.inside.starts c.self.inside.bases.items is _ c.number-square.result
    c.index.result.now c.index-2.result.now
    c.number-square.ensures c.index.ensures (c.index-2.ensures ∙ sizes) in
    made_slot c.args.self.now c.args.rel.0 c.args.pair.attr.0 c.args.ent.0 c.number-square.result c.index.result.now
    c.index-2.result.now c.place-row.result c.place-column.result
    c.slot_in.result c.args.pair.earlier c.args.pair.later c.number-square.ensures at
    (place_of c.self.inside.groups c.args.self.now.relations c.args.rel.0 c.args.ent.0 c.place-row.result
    c.args.pair.earlier (ap (λ (l : Layout). l.relations) c.self.view_is)
    c.place-row.ensures c.requires.earlier)
    (place_of c.self.inside.groups c.args.self.now.relations c.args.rel.0 c.args.ent.0 c.place-column.result
    c.args.pair.later (ap (λ (l : Layout). l.relations) c.self.view_is)
    c.place-column.ensures c.requires.later) c.slot_in.ensures
