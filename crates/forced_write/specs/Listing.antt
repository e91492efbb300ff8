-- The forced pairs that are listed so far, in their order.
use Rattle.std.specs.Prelude.{◌≡◌, ◌<◌, ℕ, List, Contains, Some, length, slice_get}
use Rattle.std.specs.List.Sorted.{IsStrictlySortedBy}
use Rattle.currency_base.specs.declared.ids.RowId.{RowId}
use Rattle.entity_lists.specs.Lists.{Grouping, entities_of}
use Rattle.spec_model.specs.Facts.{IsSpecification}
use Rattle.spec_model.specs.Spec.{Spec}
use Rattle.spec_model.specs.declared.question.Asked.{Asked}
use Rattle.spec_model.specs.declared.relation.Relation.{Relation}
use Rattle.forced_closure.specs.Forced.{IsForced}
use Rattle.forced_write.specs.ForcedText.{pair_cmp}

-- a pair is forced
abbrev pub IsForcedPair : Spec → Asked → Type 0
IsForcedPair s p = IsForced s p.rel.0 p.pair.attr.0 p.pair.earlier p.pair.later

-- a pair comes before the one of this relation, attribute and earlier row that follows on these later rows
pub data Precedes (rel attr earlier : ℕ) (laters : List RowId) (p : Asked) : Type 0 where
  by_rel : p.rel.0 < rel → Precedes rel attr earlier laters p
  by_attr : p.rel.0 ≡ rel → p.pair.attr.0 < attr → Precedes rel attr earlier laters p
  by_earlier : p.rel.0 ≡ rel → p.pair.attr.0 ≡ attr → p.pair.earlier.0 < earlier → Precedes rel attr earlier laters p
  by_later : p.rel.0 ≡ rel → p.pair.attr.0 ≡ attr → p.pair.earlier.0 ≡ earlier → Contains laters p.pair.later
      → Precedes rel attr earlier laters p

-- a forced pair that comes before it
pub record IsSeen (s : Spec) (rel attr earlier : ℕ) (laters : List RowId) (p : Asked) : Type 0 where
  pub forced : IsForcedPair s p
  pub precedes : Precedes rel attr earlier laters p

-- exactly the forced pairs that come before it, in their order
pub record AreListed (s : Spec) (rel attr earlier : ℕ) (laters : List RowId) (pairs : List Asked) : Type 0 where
  pub each : (p : Asked) → Contains pairs p → IsSeen s rel attr earlier laters p
  pub all : (p : Asked) → IsSeen s rel attr earlier laters p → Contains pairs p
  pub ascend : IsStrictlySortedBy pair_cmp pairs

-- exactly the forced pairs, in their order
pub record AreForcedPairs (s : Spec) (pairs : List Asked) : Type 0 where
  pub each : (p : Asked) → Contains pairs p → IsForcedPair s p
  pub all : (p : Asked) → IsForcedPair s p → Contains pairs p
  pub ascend : IsStrictlySortedBy pair_cmp pairs

-- an attribute of a relation of the specification, and the rows of the relation by entity
pub record IsColumn (s : Spec) (lists : Grouping) (rel attr : ℕ) : Type 0 where
  pub facts : IsSpecification s
  pub relation : Relation
  pub is_relation : slice_get s.relations rel ≡ Some relation
  pub attr_within : attr < length relation.attrs
  pub entities_are : lists.entities ≡ entities_of relation.rows
