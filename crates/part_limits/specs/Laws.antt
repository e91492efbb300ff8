-- Laws of the limits of parts, as statements.
use Rattle.part_laws.specs.Parts.{Scope, Places, IsPartOf}
use Rattle.spec_model.specs.Facts.{IsSpecification}
use Rattle.spec_model.specs.Spec.{Spec}
use Rattle.item_limits.specs.Laws.{ExceedsNone}

-- a part exceeds no limit that the whole does not
abbrev pub PartsAreWithin : Type 0
PartsAreWithin = (s : Spec) (scope : Scope) (n : Places) (part : Spec) → IsSpecification s → IsPartOf s scope n part
    → ExceedsNone s → ExceedsNone part
