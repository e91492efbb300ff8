use Rattle.std.proofs.Common.{◌<◌, sym, subst}
use Rattle.search_trail.specs.Trails.{IsFree, StandsAt, Trail}
use Rattle.search_trail.proofs.Asked.{place_known}
use Rattle.search_trail.proofs.trail.Trail.place.Goals as goal

pub returns : goal.returns
returns c =
    let within = subst (λ (t : Trail). c.args.var < t.vars) (sym c.self.view_is) c.requires.within in
    let given = subst (λ (t : Trail). IsFree t c.args.var → ⊥) (sym c.self.view_is) c.requires.given in
    subst (λ (t : Trail). StandsAt t c.args.var c.index.result.now) c.self.view_is
    (place_known _ _ _ _ _ _ _ _ c.self.invariant c.args.var _ _ within c.index.ensures given)
