-- How the items of `same` are met, one entity of an asked relation after another.
use Rattle.std.specs.Prelude.{◌≡◌, ◌==◌, ◌⊎◌, ◌<◌, ◌≤◌, ℕ, Bool, List, length, Some, slice_get}
use Rattle.std.specs.List.{list_any}
use Rattle.currency_base.specs.declared.ids.EntId.{EntId}
use Rattle.currency_base.specs.declared.ids.RelId.{RelId}
use Rattle.report_model.specs.declared.verdict.Current.{Current}
use Rattle.report_verify.specs.Asked.{HasValues, IsItemBefore, IsOfAsked}
use Rattle.spec_model.specs.declared.relation.Relation.{Relation}

-- the relation of that number is asked about
abbrev pub is_asked : List RelId → ℕ → Bool
is_asked rels rel = list_any (λ r. r.0 == rel) rels

-- an item is of an earlier relation, or of an earlier entity of this one
abbrev pub IsBelow : ℕ → ℕ → RelId → EntId → Type 0
IsBelow rel ent r e = (r.0 < rel) ⊎ ((r.0 ≡ rel) × (e.0 < ent))

-- one of the first items is that of an entity
pub record IsAmong (items : List Current) (at : ℕ) (rel : RelId) (ent : EntId) : Type 0 where
  pub place : ℕ
  pub item : Current
  pub early : place < at
  pub here : slice_get items place ≡ Some item
  pub of_rel : item.rel ≡ rel
  pub of_ent : item.ent ≡ ent

-- an item of an asked entity before this one, with its values
pub record IsMet (relations : List Relation) (rels : List RelId) (rel ent : ℕ) (item : Current) : Type 0 where
  pub asked : IsOfAsked relations rels item.rel item.ent
  pub values : HasValues relations item
  pub below : IsBelow rel ent item.rel item.ent

-- so many first items are those of the asked entities before this one, in order, each with its values
pub record AreMet (relations : List Relation) (rels : List RelId) (items : List Current) (rel ent at : ℕ) : Type 0 where
  pub within : at ≤ length items
  pub only : (k : ℕ) (item : Current) → k < at → slice_get items k ≡ Some item → IsMet relations rels rel ent item
  pub all : (r : RelId) (e : EntId) → IsOfAsked relations rels r e → IsBelow rel ent r e → IsAmong items at r e
  pub ordered : (i j : ℕ) (a b : Current) → i < j → j < at → slice_get items i ≡ Some a → slice_get items j ≡ Some b
      → IsItemBefore a b

-- an item is that of an entity of a relation, and has one value per attribute
pub record IsItemOf (relation : Relation) (rel ent : ℕ) (item : Current) : Type 0 where
  pub of_rel : item.rel.0 ≡ rel
  pub of_ent : item.ent.0 ≡ ent
  pub per_attr : length item.values ≡ length relation.attrs

-- the item at a place is such an item
pub record IsItemAt (relation : Relation) (rel ent : ℕ) (items : List Current) (at : ℕ) : Type 0 where
  pub item : Current
  pub here : slice_get items at ≡ Some item
  pub is : IsItemOf relation rel ent item
