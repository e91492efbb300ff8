-- Laws of the limits of specifications with fewer items, as statements.
use Rattle.std.specs.Prelude.{◌≡◌, None}
use Rattle.spec_limits.specs.Limits.{exceeded, too_many_variables}
use Rattle.spec_limits.specs.Instances.{too_many_instances}
use Rattle.spec_model.specs.Spec.{Spec}
use Rattle.spec_items.specs.Kept.{Keeps, kept}
use Rattle.kept_items.specs.Alike.{AreAlike}

-- no limit is exceeded
pub record ExceedsNone (s : Spec) : Type 0 where
  pub parts : exceeded s ≡ None
  pub variables_few : too_many_variables s ≡ None
  pub instances_few : too_many_instances s ≡ None

-- what is alike to a specification with some of its items exceeds no limit that the whole does not
abbrev pub FewerAreWithin : Type 0
FewerAreWithin = (s new : Spec) (keeps : Keeps) → AreAlike new (kept keeps s) → ExceedsNone s → ExceedsNone new
