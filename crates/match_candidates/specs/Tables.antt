-- A relation with the rows of its entities and their names as values, and the entities that may fit an atom.
use Rattle.std.specs.Prelude.{◌≡◌, ◌<◌, ℕ, List, [], ◌∷◌, All, Contains, Option, Some, None, length, map, slice_get}
use Rattle.currency_base.specs.declared.ids.EntId.{EntId}
use Rattle.currency_base.specs.declared.ids.RelId.{RelId}
use Rattle.currency_base.specs.declared.ids.RowId.{RowId}
use Rattle.currency_base.specs.declared.row.Row.{Row}
use Rattle.currency_base.specs.declared.value.Value.{Value}
use Rattle.currency_base.specs.declared.value.Value.TheVariants.{Text}
use Rattle.denial_rules.specs.Instances.{field_value}
use Rattle.entity_rows.specs.Members.{AreEntityRows}
use Rattle.query_model.specs.declared.query.Atom.{Atom}
use Rattle.spec_model.specs.Facts.{IsRelation}
use Rattle.spec_model.specs.declared.relation.Relation.{Relation}
use Rattle.match_candidates.specs.Entries.{AreEntries, Indexed}
use Rattle.match_candidates.specs.Places.{AtomFits}
use Rattle.match_candidates.specs.Ways.{Agrees}
use Rattle.match_candidates.specs.declared.place_index.Entry.{Entry}

-- each entity of a relation is listed, and nothing else
pub record AreEntities (r : Relation) (all : List EntId) : Type 0 where
  pub within : All (λ ent. ent.0 < length r.entities) all
  pub each : (ent : EntId) → ent.0 < length r.entities → Contains all ent

abbrev pub one_of : {A : Type 0} → Option A → List A
one_of None = []
one_of (Some x) = x ∷ []

-- the one value that is there, if one is
abbrev pub IsOnly : Option Value → List Value → Type 0
IsOnly one list = list ≡ one_of one

-- exactly the values that rows have of an attribute
pub record AreOfRows (rows : List Row) (members : List RowId) (attr : ℕ) (list : List Value) : Type 0 where
  pub each : All (λ x. (row : RowId) × Contains members row × (field_value rows (Some row) attr ≡ Some x)) list
  pub all : (row : RowId) (x : Value) → Contains members row → field_value rows (Some row) attr ≡ Some x → Contains list x

-- the names of a relation's entities as values, and their rows
pub record IsTable (r : Relation) (values : List Value) (members : List (List RowId)) (ents : List EntId) : Type 0 where
  pub facts : IsRelation r
  pub names : values ≡ map (λ name. Text name) r.entities
  pub rows : AreEntityRows r.rows (length r.entities) members
  pub all : AreEntities r ents

-- entities of a relation, and indexes of the same relation
pub record IsIndexed (r : Relation) (all : List Entry) (indexes : List Indexed) : Type 0 where
  pub entities : AreEntries r 0 all
  pub same : All (λ index. index.relation ≡ r) indexes

-- the same values stand in both lists
pub record HaveSame (xs ys : List Value) : Type 0 where
  pub all : (x : Value) → Contains xs x → Contains ys x
  pub each : (x : Value) → Contains ys x → Contains xs x

-- an entity is listed
pub record Lists (entries : List Entry) (ent : EntId) : Type 0 where
  pub entry : Entry
  pub is_in : Contains entries entry
  pub of : entry.ent ≡ ent

-- entities of a relation, among which all are that an atom of it can fit
pub record AreFor (r : Relation) (atom : Atom) (b : List (Option Value)) (entries : List Entry) : Type 0 where
  pub within : All (λ entry. entry.ent.0 < length r.entities) entries
  pub all : (relations : List Relation) (values : List Value) (ent : EntId) → slice_get relations atom.relation.0 ≡ Some r
      → Agrees b values
      → AtomFits relations values atom ent → Lists entries ent

-- an entity of a relation that is there
pub record IsEntityOf (relations : List Relation) (rel : RelId) (ent : EntId) : Type 0 where
  pub relation : Relation
  pub is_relation : slice_get relations rel.0 ≡ Some relation
  pub within : ent.0 < length relation.entities

-- entities of an atom's relation, among which all are that it can fit
pub record AreCandidates (relations : List Relation) (atom : Atom) (b : List (Option Value)) (entries : List Entry) : Type 0 where
  pub each : All (λ entry. IsEntityOf relations atom.relation entry.ent) entries
  pub all : (values : List Value) (ent : EntId) → Agrees b values → AtomFits relations values atom ent → Lists entries ent
