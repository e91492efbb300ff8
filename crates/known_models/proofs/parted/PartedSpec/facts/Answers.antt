use Rattle.std.proofs.Common.{refl, subst}
use Rattle.known_models.specs.Known.{IsParted, PartedSpec, numbers_in}
use Rattle.known_models.proofs.parted.PartedSpec.facts.Goals as goal

pub returns : goal.returns
returns c =
    let i = c.self.invariant in
    subst (λ (p : PartedSpec). IsParted (numbers_in p) p) c.self.view_is
    (record { numbers = refl; ties = i.ties; parts = i.parts })
