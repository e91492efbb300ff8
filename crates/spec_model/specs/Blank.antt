-- Completions with no row.
use Rattle.std.specs.Prelude.{ℕ, List, [], replicate, map, length}
use Rattle.spec_model.specs.declared.relation.Relation.{Relation}
use Rattle.currency_base.specs.declared.ids.RowId.{RowId}

-- an empty list for each of so many entities
abbrev pub blank_lists : ℕ → List (List RowId)
blank_lists entities = replicate entities []

-- an empty list for each of so many attributes and entities
abbrev pub blank_rankings : ℕ → ℕ → List (List (List RowId))
blank_rankings attrs entities = replicate attrs (blank_lists entities)

-- the same for each of these relations
abbrev pub blank_of : List Relation → List (List (List (List RowId)))
blank_of relations = map (λ r. blank_rankings (length r.attrs) (length r.entities)) relations
