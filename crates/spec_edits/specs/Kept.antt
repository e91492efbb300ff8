-- What edits keep.
use Rattle.std.specs.Prelude.{◌≡◌, [], List, map}
use Rattle.spec_model.specs.declared.relation.Relation.{Relation}

-- a relation without its given pairs
abbrev pub without_pairs : Relation → Relation
without_pairs r = record r { given = [] }

-- the same relations but for their given pairs: in the same order, each with the same name, attributes, rows and entities
abbrev pub AreSameButGiven : List Relation → List Relation → Type 0
AreSameButGiven old new = map without_pairs new ≡ map without_pairs old
