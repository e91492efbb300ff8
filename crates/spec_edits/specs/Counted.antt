-- What is counted of a specification that is edited.
use Rattle.std.specs.Prelude.{◌≡◌, ℕ, List, None, Some}
use Rattle.currency_base.specs.declared.ids.RowId.{RowId}
use Rattle.spec_limits.specs.Instances.{instances}
use Rattle.spec_limits.specs.Left.{AreEntityLists, left_of}
use Rattle.spec_limits.specs.Limits.{exceeded, too_many_variables}
use Rattle.spec_model.specs.Spec.{Spec}

-- no limit is exceeded, these are the rows of each entity, and this is what the instances leave of their bound
pub record IsCounted (s : Spec) (lists : List (List (List RowId))) (left : ℕ) : Type 0 where
  pub parts : exceeded s ≡ None
  pub variables : too_many_variables s ≡ None
  pub rows : AreEntityLists s.relations lists
  pub instances : left_of 8000000 (instances s) ≡ Some left
