-- Laws of specifications that are alike, as statements.
use Rattle.spec_model.specs.Spec.{Spec}
use Rattle.spec_model.specs.Completion.{Rankings}
use Rattle.spec_model.specs.Consistent.{IsConsistent}
use Rattle.std.specs.Prelude.{◌↔◌}
use Rattle.kept_items.specs.Alike.{AreAlike}

-- two specifications that are alike have the same consistent completions
abbrev pub AlikeAreOne : Type 0
AlikeAreOne = (s other : Spec) → AreAlike s other → (c : Rankings) → IsConsistent s c ↔ IsConsistent other c
