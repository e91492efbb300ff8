use Rattle.std.proofs.Common.{◌∙◌, ◌<◌, length, ap, arith}
use Rattle.currency_base.specs.Literals.{var_of}
use Rattle.search_trail.specs.Trails.{Trail, rebased}
use Rattle.search_trail.proofs.Fits.{fits_rebased}
use Rattle.search_trail.proofs.Steps.{inside_of, reason_some, seen_rebased}
use Rattle.search_trail.proofs.trail.Trail.rebase.Goals as goal

pub invariant_of-self : goal.invariant_of-self
invariant_of-self c =
    let inside = inside_of _ _ _ _ _ _ _ _ c.self.invariant _ c.args.lit _ c.self.view_is c.requires.within in
    let few : c.args.clause.0 < 4294967295 = omega (arith, c.count-count.ensures, c.count-count.type_inv, c.requires.there) in
    rw (c.var.ensures.value) (fits_rebased _ _ _ _ _ _ _ _ c.self.invariant _ c.args.clause.0 inside few)

pub returns : goal.returns
returns c =
    let inside = inside_of _ _ _ _ _ _ _ _ c.self.invariant _ c.args.lit _ c.self.view_is c.requires.within in
    let few : c.args.clause.0 < 4294967295 = omega (arith, c.count-count.ensures, c.count-count.type_inv, c.requires.there) in
    let within : var_of c.args.lit < length c.self.inside.reasons.items =
    omega (arith, inside, c.self.invariant.reasons_length) in
    rw (c.var.ensures.value)
    (seen_rebased _ _ _ _ _ _ (var_of c.args.lit) c.args.clause.0 within
    (reason_some c.args.clause.0 few)
    ∙ ap (λ (t : Trail). rebased t (var_of c.args.lit) c.args.clause.0) c.self.view_is)
