-- The places that names name: attributes, entities and rows of relations.
use Rattle.std.specs.Prelude.{ℕ, List, [], ◌∷◌, map, Option, Some, None, option_map, option_and_then, slice_get}
use Rattle.currency_base.specs.declared.ids.RowId.{RowId}
use Rattle.spec_names.specs.Names.{place_of}
use Rattle.spec_model.specs.declared.relation.Relation.{Relation}
use Rattle.text_grammar.specs.declared.named.Named.{Named}

-- a relation and one of its attributes
pub record AttrPlace : Type 0 where
  pub relation : Relation
  pub rel : ℕ
  pub attr : ℕ

-- a relation and one of its entities
pub record EntityPlace : Type 0 where
  pub relation : Relation
  pub rel : ℕ
  pub ent : ℕ

-- a relation, one of its attributes and one of its entities
pub record Place : Type 0 where
  pub relation : Relation
  pub rel : ℕ
  pub attr : ℕ
  pub ent : ℕ

-- the relation of a name, with its number
abbrev pub relation_named : List Relation → List ℕ → Option (ℕ × Relation)
relation_named relations name =
    option_and_then (λ rel. option_map (λ r. (rel, r)) (slice_get relations rel)) (place_of (map (λ r. r.name) relations) name)

-- the attribute of a name in a relation
abbrev pub attr_in : ℕ × Relation → List ℕ → Option AttrPlace
attr_in x attr = option_map (λ a. record { relation = x.1; rel = x.0; attr = a }) (place_of (map (λ a. a.name) x.1.attrs) attr)

-- the attribute that two names name
abbrev pub attr_named : List Relation → Named → Named → Option AttrPlace
attr_named relations relation attr = option_and_then (λ x. attr_in x attr.name) (relation_named relations relation.name)

-- the entity of a name in a relation
abbrev pub entity_in : ℕ × Relation → List ℕ → Option EntityPlace
entity_in x entity = option_map (λ ent. record { relation = x.1; rel = x.0; ent = ent }) (place_of x.1.entities entity)

-- the entity that two names name
abbrev pub entity_named : List Relation → Named → Named → Option EntityPlace
entity_named relations relation entity = option_and_then (λ x. entity_in x entity.name) (relation_named relations relation.name)

-- an attribute with the entity of a name in its relation
abbrev pub place_at : AttrPlace → List ℕ → Option Place
place_at a entity =
    option_map (λ ent. record { relation = a.relation; rel = a.rel; attr = a.attr; ent = ent })
    (place_of a.relation.entities entity)

-- the attribute and the entity that three names name
abbrev pub place_named : List Relation → Named → Named → Named → Option Place
place_named relations relation attr entity =
    option_and_then (λ a. place_at a entity.name) (attr_named relations relation attr)

-- the row of a name in a relation
abbrev pub row_named : Relation → Named → Option RowId
row_named r row = option_map (λ n. record { 0 = n }) (place_of (map (λ row. row.name) r.rows) row.name)

-- one more row at the front, where all are there
abbrev pub row_and : Option RowId → Option (List RowId) → Option (List RowId)
row_and (Some row) (Some rows) = Some (row ∷ rows)
row_and row rows = None

-- the rows of these names in a relation, where it has them all
abbrev pub rows_named : Relation → List Named → Option (List RowId)
rows_named r [] = Some []
rows_named r (n ∷ ns) = row_and (row_named r n) (rows_named r ns)
