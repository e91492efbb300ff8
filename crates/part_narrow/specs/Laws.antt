-- A law of completions of parts, as a statement.
use Rattle.part_laws.specs.Parts.{Scope, Places, IsPartOf, IsNarrowed}
use Rattle.spec_model.specs.Completion.{Rankings, IsCompletion, HasShape}
use Rattle.spec_model.specs.Spec.{Spec}

-- a completion of a part that says of its rows what one of the whole says of them
pub record Narrowed (s : Spec) (n : Places) (part : Spec) (c : Rankings) : Type 0 where
  pub narrow : Rankings
  pub shape : HasShape part.relations narrow
  pub narrowed : IsNarrowed s.relations n c narrow

-- each completion of the whole says something of a part's rows
abbrev pub NarrowsExist : Type 0
NarrowsExist = (s : Spec) (scope : Scope) (n : Places) (part : Spec) (c : Rankings) → IsPartOf s scope n part
    → IsCompletion s.relations c → Narrowed s n part c
