use Rattle.std.proofs.Common.{◌≡◌, ◌∙◌, ◌++◌, ◌∷◌, [], ℕ, length, ap, arith}
use Rattle.search_trail.specs.Trails.{Trail, assumed}
use Rattle.search_trail.proofs.Fits.{fits_assumed, has_room, levels_few, lits_few}
use Rattle.search_trail.proofs.Steps.{fresh_of, inside_of, seen_assumed}
use Rattle.search_trail.proofs.trail.Trail.assume.Goals as goal
use Rattle.search_trail.proofs.trail.Trail.assume.Goals.{After-put_lit}

pub overflow_cast-place : goal.overflow_cast-place
overflow_cast-place c =
    let is = c.self.invariant in
    omega (arith, is.few, lits_few _ _ _ _ _ _ _ _ is, c.len-place.ensures, c.self.inside.lits.ok.0)

pub push_start-requires : goal.push_start-requires
push_start-requires c =
    let is = c.self.invariant in
    let fresh = fresh_of _ _ _ _ _ _ _ _ c.self.invariant _ c.args.lit _ c.self.view_is c.requires.free in
    let inside = inside_of _ _ _ _ _ _ _ _ c.self.invariant _ c.args.lit _ c.self.view_is c.requires.within in
    let room = has_room _ _ _ _ _ _ _ _ c.self.invariant c.args.lit inside fresh in
    omega (arith, levels_few _ _ _ _ _ _ _ _ is, room, is.starts_fit, c.self.inside.starts.ok.0)

pub put_lit-requires-clause-room : goal.put_lit-requires-clause-room
put_lit-requires-clause-room c =
    let is = c.self.invariant in
    let fresh = fresh_of _ _ _ _ _ _ _ _ c.self.invariant _ c.args.lit _ c.self.view_is c.requires.free in
    let inside = inside_of _ _ _ _ _ _ _ _ c.self.invariant _ c.args.lit _ c.self.view_is c.requires.within in
    let room = has_room _ _ _ _ _ _ _ _ c.self.invariant c.args.lit inside fresh in
    omega (arith, room, is.lits_fit, c.self.inside.lits.ok.0)

place_now : (c : After-put_lit) → c.len-place.result ≡ length c.self.inside.lits.items
place_now c = omega (arith, c.len-place.ensures, c.self.inside.lits.ok.0)

starts_now : (c : After-put_lit) → c.push_start.new.starts.items ≡ c.self.inside.starts.items
    ++ length c.self.inside.lits.items ∷ []
starts_now c = c.push_start.ensures.items ∙ ap (λ (n : ℕ). c.self.inside.starts.items ++ n ∷ []) (place_now c)

pub invariant_of-self : goal.invariant_of-self
invariant_of-self c =
    let fresh = fresh_of _ _ _ _ _ _ _ _ c.self.invariant _ c.args.lit _ c.self.view_is c.requires.free in
    let inside = inside_of _ _ _ _ _ _ _ _ c.self.invariant _ c.args.lit _ c.self.view_is c.requires.within in
    rw (c.put_lit.ensures.values, c.put_lit.ensures.items, starts_now c, place_now c, c.var-var.ensures.value)
    (fits_assumed _ _ _ _ _ _ _ _ c.self.invariant c.args.lit inside fresh 4294967295 _ _ c.put_lit.ensures.capacity
    c.push_start.ensures.capacity)

pub returns : goal.returns
returns c =
    let fresh = fresh_of _ _ _ _ _ _ _ _ c.self.invariant _ c.args.lit _ c.self.view_is c.requires.free in
    let inside = inside_of _ _ _ _ _ _ _ _ c.self.invariant _ c.args.lit _ c.self.view_is c.requires.within in
    rw (c.put_lit.ensures.values, c.put_lit.ensures.items, starts_now c, c.var-var.ensures.value)
    (seen_assumed _ _ _ _ _ _ _ _ c.self.invariant _ c.args.lit fresh inside ∙ ap (λ (t : Trail). assumed t c.args.lit)
    c.self.view_is)
