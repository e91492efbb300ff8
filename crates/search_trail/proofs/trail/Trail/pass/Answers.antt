use Rattle.std.proofs.Common.{◌<◌, length, sym, subst}
use Rattle.search_trail.specs.Trails.{Trail}
use Rattle.search_trail.proofs.Asked.{fits_passed}
use Rattle.search_trail.proofs.trail.Trail.pass.Goals as goal

pub invariant_of-self : goal.invariant_of-self
invariant_of-self c =
    fits_passed _ _ _ _ _ _ _ _ c.self.invariant (subst (λ (t : Trail). t.gone < length t.entries)
    (sym c.self.view_is) c.requires)
