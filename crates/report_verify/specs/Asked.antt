-- What is asked about: a query, and the entities of relations.
use Rattle.std.specs.Prelude.{◌≡◌, ◌⊎◌, ◌<◌, ℕ, List, length, All, Contains, Option, Some, None, slice_get}
use Rattle.currency_base.specs.declared.ids.EntId.{EntId}
use Rattle.currency_base.specs.declared.ids.RelId.{RelId}
use Rattle.query_model.specs.declared.query.Query.{Query}
use Rattle.spec_model.specs.declared.question.Question.{Question}
use Rattle.spec_model.specs.declared.question.Question.TheVariants as asked
use Rattle.spec_model.specs.declared.relation.Relation.{Relation}
use Rattle.report_model.specs.declared.verdict.Current.{Current}

-- the query of a question, if it asks for answers
abbrev pub query_of : Question → Option Query
query_of (asked.Answers query) = Some query
query_of q = None

-- ---- the entities of asked relations

-- the entity of an item is one of an asked relation
pub record IsOfAsked (relations : List Relation) (rels : List RelId) (rel : RelId) (ent : EntId) : Type 0 where
  pub asked : Contains rels rel
  pub relation : Relation
  pub is_relation : slice_get relations rel.0 ≡ Some relation
  pub within : ent.0 < length relation.entities

-- an item has one value per attribute
pub record HasValues (relations : List Relation) (item : Current) : Type 0 where
  pub relation : Relation
  pub is_relation : slice_get relations item.rel.0 ≡ Some relation
  pub per_attr : length item.values ≡ length relation.attrs

-- of two items, the first is of a relation before the other's, or of an entity before the other's in one relation
abbrev pub IsItemBefore : Current → Current → Type 0
IsItemBefore a b = (a.rel.0 < b.rel.0) ⊎ ((a.rel ≡ b.rel) × (a.ent.0 < b.ent.0))

-- the items are exactly those of the entities of the asked relations, in order of relation and entity, each with one value
-- per attribute
pub record AreItemsOf (relations : List Relation) (rels : List RelId) (items : List Current) : Type 0 where
  pub only : All (λ item. IsOfAsked relations rels item.rel item.ent) items
  pub all : (rel : RelId) (ent : EntId) → IsOfAsked relations rels rel ent
      → (item : Current) × Contains items item × (item.rel ≡ rel) × (item.ent ≡ ent)
  pub values : All (HasValues relations) items
  pub ordered : (i j : ℕ) (a b : Current) → i < j → slice_get items i ≡ Some a → slice_get items j ≡ Some b → IsItemBefore a b
