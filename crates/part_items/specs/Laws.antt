-- Laws of the items of a part, as statements.
use Rattle.spec_model.specs.Spec.{Spec}
use Rattle.part_laws.specs.Parts.{Scope, Places, IsPartOf}
use Rattle.spec_items.specs.Kept.{Keeps, kept}
use Rattle.part_items.specs.Items.{kept_in}

-- a part with some of its items is the part of the whole with those items
abbrev pub ItemsAreParted : Type 0
ItemsAreParted = (s : Spec) (scope : Scope) (n : Places) (part : Spec) (keeps : Keeps) → IsPartOf s scope n part
    → IsPartOf (kept keeps s) scope n (kept (kept_in n s.copies keeps) part)
