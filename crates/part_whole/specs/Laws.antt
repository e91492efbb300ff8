-- A law of the part that has all entities, as a statement.
use Rattle.std.specs.Prelude.{◌↔◌, true}
use Rattle.part_laws.specs.Parts.{IsPartOf, Places}
use Rattle.spec_model.specs.Completion.{Rankings}
use Rattle.spec_model.specs.Consistent.{IsConsistent}
use Rattle.spec_model.specs.Facts.{IsSpecification}
use Rattle.spec_model.specs.Spec.{Spec}

-- it has the consistent completions that the specification has
abbrev pub WholeParts : Type 0
WholeParts = (s : Spec) (n : Places) (part : Spec) → IsSpecification s → IsPartOf s (λ rel ent. true) n part
    → (c : Rankings) → IsConsistent part c ↔ IsConsistent s c
