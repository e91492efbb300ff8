-- Which completions can be joined with one of the whole.
use Rattle.std.specs.Prelude.{◌≡◌, ◌<◌, ℕ, List, [], All, Some, length, slice_get, slice_index_or}
use Rattle.part_laws.specs.Parts.{Scope, Places, rows_in, entities_in, IsPartOf}
use Rattle.spec_model.specs.Completion.{Rankings, lists_of, ranking_of, IsCompletion}
use Rattle.spec_model.specs.Spec.{Spec}
use Rattle.spec_model.specs.declared.relation.Relation.{Relation}

-- one list per relation, attribute and entity of a part, of rows of the part
pub record FitsPart (relations : List Relation) (n : Places) (narrow : Rankings) : Type 0 where
  pub per_relation : length narrow ≡ length relations
  pub per_attr : (rel : ℕ) (r : Relation) → slice_get relations rel ≡ Some r
      → length (slice_index_or narrow rel []) ≡ length r.attrs
  pub per_entity : (rel : ℕ) (r : Relation) → slice_get relations rel ≡ Some r
      → (attr : ℕ) → attr < length r.attrs → length (lists_of narrow rel attr) ≡ length (entities_in n rel)
  pub within : (rel attr k : ℕ) → All (λ row. row.0 < length (rows_in n rel)) (ranking_of narrow rel attr k)

-- a completion of a part is so
abbrev pub CompletionsFit : Type 0
CompletionsFit = (s : Spec) (scope : Scope) (n : Places) (part : Spec) (narrow : Rankings) → IsPartOf s scope n part
    → IsCompletion part.relations narrow → FitsPart s.relations n narrow
