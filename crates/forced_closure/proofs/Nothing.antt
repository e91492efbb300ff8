-- A specification with nothing in it is within its limits.
use Rattle.std.proofs.Common.{◌≡◌, [], None, refl, sym, ap, ◌∙◌}
use Rattle.spec_limits.specs.Limits.{exceeded, order_variables, too_many_variables}
use Rattle.spec_model.specs.Spec.{Spec}

pub no_parts : (s : Spec) → s ≡ record { relations = []; rules = []; copies = [] } → exceeded s ≡ None
unfolding exceeded
no_parts s e = ap exceeded e ∙ refl

pub no_variables : (s : Spec) → s ≡ record { relations = []; rules = []; copies = [] } → too_many_variables s ≡ None
unfolding order_variables too_many_variables
no_variables s e = ap too_many_variables e ∙ refl
