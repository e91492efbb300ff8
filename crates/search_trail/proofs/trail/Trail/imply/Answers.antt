use Rattle.std.proofs.Common.{◌≡◌, ◌<◌, ◌∙◌, length, ap, arith}
use Rattle.search_trail.specs.Trails.{Trail, implied}
use Rattle.search_trail.proofs.Fits.{fits_implied, has_room, lits_few}
use Rattle.search_trail.proofs.Steps.{fresh_of, inside_of, reason_some, seen_implied}
use Rattle.search_trail.proofs.trail.Trail.imply.Goals as goal
use Rattle.search_trail.proofs.trail.Trail.imply.Goals.{After-put_lit}

pub overflow_cast-len : goal.overflow_cast-len
overflow_cast-len c =
    let is = c.self.invariant in
    omega (arith, is.few, lits_few _ _ _ _ _ _ _ _ is, c.len.ensures, c.self.inside.lits.ok.0)

pub put_lit-requires-clause-room : goal.put_lit-requires-clause-room
put_lit-requires-clause-room c =
    let is = c.self.invariant in
    let fresh = fresh_of _ _ _ _ _ _ _ _ c.self.invariant _ c.args.lit _ c.self.view_is c.requires.free in
    let inside = inside_of _ _ _ _ _ _ _ _ c.self.invariant _ c.args.lit _ c.self.view_is c.requires.within in
    let room = has_room _ _ _ _ _ _ _ _ c.self.invariant c.args.lit inside fresh in
    omega (arith, room, is.lits_fit, c.self.inside.lits.ok.0)

place_now : (c : After-put_lit) → c.len.result ≡ length c.self.inside.lits.items
place_now c = omega (arith, c.len.ensures, c.self.inside.lits.ok.0)

few_clauses : (c : After-put_lit) → c.args.clause.0 < 4294967295
few_clauses c = omega (arith, c.count-count.ensures, c.count-count.type_inv, c.requires.there)

pub invariant_of-self : goal.invariant_of-self
invariant_of-self c =
    let fresh = fresh_of _ _ _ _ _ _ _ _ c.self.invariant _ c.args.lit _ c.self.view_is c.requires.free in
    let inside = inside_of _ _ _ _ _ _ _ _ c.self.invariant _ c.args.lit _ c.self.view_is c.requires.within in
    rw (c.put_lit.ensures.values, c.put_lit.ensures.items, place_now c, c.var-var.ensures.value)
    (fits_implied _ _ _ _ _ _ _ _ c.self.invariant c.args.lit inside fresh c.args.clause.0 _ (few_clauses c)
    c.put_lit.ensures.capacity)

pub returns : goal.returns
returns c =
    let fresh = fresh_of _ _ _ _ _ _ _ _ c.self.invariant _ c.args.lit _ c.self.view_is c.requires.free in
    let inside = inside_of _ _ _ _ _ _ _ _ c.self.invariant _ c.args.lit _ c.self.view_is c.requires.within in
    rw (c.put_lit.ensures.values, c.put_lit.ensures.items, c.var-var.ensures.value)
    (seen_implied _ _ _ _ _ _ _ _ c.self.invariant _ c.args.lit fresh inside c.args.clause.0
    (reason_some c.args.clause.0 (few_clauses c))
    ∙ ap (λ (t : Trail). implied t c.args.lit c.args.clause.0) c.self.view_is)
