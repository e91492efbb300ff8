-- What is known of the statements that are bound so far.
use Rattle.std.specs.Prelude.{◌≡◌, ℕ, None}
use Rattle.spec_limits.specs.Limits.{exceeded, rows_together}
use Rattle.spec_model.specs.Spec.{Spec}
use Rattle.spec_names.specs.NameLists.{NameLists}
use Rattle.spec_names.specs.Names.{all_names_of}

-- these are the names of the specification's parts and this is the number of its rows, and no limit is exceeded
pub record IsKnown (s : Spec) (names : NameLists) (rows : ℕ) : Type 0 where
  pub names_are : names ≡ all_names_of s
  pub rows_are : rows ≡ rows_together s.relations
  pub within : exceeded s ≡ None
