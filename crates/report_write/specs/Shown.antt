-- Completions as they are written.
use Rattle.std.specs.Prelude.{◌≡◌, ℕ, List, All, Option, Some, None, slice_get}
use Rattle.spec_model.specs.Completion.{Rankings, HasShape, ranking_of}
use Rattle.spec_model.specs.declared.relation.Relation.{Relation}
use Rattle.report_write.specs.Named.{IsRowOf}
use Rattle.report_write.specs.Pieces.{differing}

-- a completion whole, or without what is as in the first one
abbrev pub shown : Option Rankings → Rankings → Rankings
shown None c = c
shown (Some first) c = differing first c

-- a list of rows of the relation for each relation, attribute and entity
pub record AreOn (relations : List Relation) (c : Rankings) : Type 0 where
  pub shape : HasShape relations c
  pub rows : (rel attr ent : ℕ) (r : Relation) → slice_get relations rel ≡ Some r
      → All (λ row. IsRowOf relations rel row.0) (ranking_of c rel attr ent)
