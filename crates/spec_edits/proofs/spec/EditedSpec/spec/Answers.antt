use Rattle.std.proofs.Common.{◌≡◌, None, subst}
use Rattle.spec_limits.specs.Instances.{too_many_instances}
use Rattle.spec_limits.proofs.OfSpec.{not_too_many}
use Rattle.spec_model.specs.Spec.{Spec}
use Rattle.spec_edits.proofs.spec.EditedSpec.spec.Goals as goal

pub returns-clause-instances : goal.returns-clause-instances
returns-clause-instances c =
    subst (λ (s : Spec). too_many_instances s ≡ None) c.self.view_is
    (not_too_many c.self.inside.spec c.self.inside.left c.self.invariant.instances)
