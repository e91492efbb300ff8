-- Searching the rows that break a copy function.
use Rattle.std.specs.Prelude.{◌≡◌, ◌<◌, ℕ, true, false, List, [], length, take, All, Some, slice_get, slice_index_or}
use Rattle.currency_base.specs.declared.ids.RowId.{RowId}
use Rattle.copy_functions.specs.Copies.{CopyFunction, source_at}
use Rattle.copy_functions.specs.declared.place.Place.{Place}
use Rattle.partial_orders.specs.Pairs.{entity_of}
use Rattle.spec_model.specs.Compatible.{IsRowPairBefore}
use Rattle.spec_model.specs.declared.relation.Relation.{Relation}
use Rattle.completion_check.specs.Tests.{Places}
use Rattle.completion_check.specs.CopyTests.{CopyTried, breaks_copy}

-- ---- one copy function

-- the attributes of a place are among so many of the target and of the source
pub record IsPlaceAmong (targets sources : ℕ) (place : Place) : Type 0 where
  pub target : place.target.0 < targets
  pub source : place.source.0 < sources

-- a copy function whose rows and attributes all have places
pub record IsCopyTrial (t : CopyTried) : Type 0 where
  pub places : All (IsPlaceAmong (length t.target_places) (length t.source_places)) t.copy.places
  pub target_room : (attr : ℕ) → attr < length t.target_places → length (slice_index_or t.target_places attr []) ≡
      length t.target_rows
  pub source_room : (attr : ℕ) → attr < length t.source_places → length (slice_index_or t.source_places attr []) ≡
      length t.source_rows
  pub target_row : (row source : RowId) → source_at t.copy row ≡ Some source → row.0 < length t.target_rows
  pub source_row : (row source : RowId) → source_at t.copy row ≡ Some source → source.0 < length t.source_rows

-- none of these rows breaks a place with the first row
abbrev pub NoPartner : CopyTried → Place → RowId → List RowId → Type 0
NoPartner t place first members = (k : ℕ) (row : RowId) → slice_get members k ≡ Some row → breaks_copy t place first row ≡ false

-- the first of these rows that breaks a place with the first row
pub record IsFirstPartner (t : CopyTried) (place : Place) (first : RowId) (members : List RowId) (second : RowId) : Type 0 where
  pub at : ℕ
  pub is_member : slice_get members at ≡ Some second
  pub breaks : breaks_copy t place first second ≡ true
  pub earlier : (k : ℕ) (row : RowId) → k < at → slice_get members k ≡ Some row → breaks_copy t place first row ≡ false

-- no two rows of one entity break a place
abbrev pub NoPairBreaks : CopyTried → Place → Type 0
NoPairBreaks t place = (ent : ℕ) (first second : RowId) → entity_of t.target_rows first.0 ≡ Some ent
    → entity_of t.target_rows second.0 ≡ Some ent
    → breaks_copy t place first second ≡ false

-- the first two rows of one entity that break a place
pub record IsFirstPairBreak (t : CopyTried) (place : Place) (first second : RowId) : Type 0 where
  pub ent : ℕ
  pub first_of : entity_of t.target_rows first.0 ≡ Some ent
  pub second_of : entity_of t.target_rows second.0 ≡ Some ent
  pub breaks : breaks_copy t place first second ≡ true
  pub earlier : (ent' : ℕ) (first' second' : RowId) → IsRowPairBefore first' second' first second
      → entity_of t.target_rows first'.0 ≡ Some ent'
      → entity_of t.target_rows second'.0 ≡ Some ent' → breaks_copy t place first' second' ≡ false

-- no two rows break any place
abbrev pub NoPlaceBreaks : CopyTried → Type 0
NoPlaceBreaks t = (k : ℕ) (place : Place) → slice_get t.copy.places k ≡ Some place → NoPairBreaks t place

-- the first place that two rows break, and the first two rows that break it
pub record IsFirstPlaceBreak (t : CopyTried) (at : ℕ) (first second : RowId) : Type 0 where
  pub place : Place
  pub is_place : slice_get t.copy.places at ≡ Some place
  pub rows : IsFirstPairBreak t place first second
  pub earlier : (k : ℕ) (place' : Place) → k < at → slice_get t.copy.places k ≡ Some place' → NoPairBreaks t place'

-- ---- all copy functions of a specification

-- a copy function tried on its two relations, whose rows have these places
abbrev pub tried_between : CopyFunction → Relation → Relation → Places → Places → CopyTried
tried_between copy target source target_places source_places = record {
  copy = copy;
  target_rows = target.rows;
  source_rows = source.rows;
  target_places = target_places;
  source_places = source_places;
}

-- a copy function tried on two of the relations
abbrev pub copy_tried : CopyFunction → Relation → Relation → List Places → CopyTried
copy_tried copy target source places =
    tried_between copy target source (slice_index_or places copy.target.0 []) (slice_index_or places copy.source.0 [])

-- no two rows break a copy function
abbrev pub NoneBreaksCopy : List Relation → List Places → CopyFunction → Type 0
NoneBreaksCopy relations places copy = (target source : Relation) → slice_get relations copy.target.0 ≡ Some target
    → slice_get relations copy.source.0 ≡ Some source → NoPlaceBreaks (copy_tried copy target source places)

-- the first place and the first two rows that break a copy function
pub record BreaksCopyFirst (relations : List Relation) (places : List Places) (copy : CopyFunction) (at : ℕ)
    (first second : RowId) : Type 0 where
  pub target : Relation
  pub source : Relation
  pub is_target : slice_get relations copy.target.0 ≡ Some target
  pub is_source : slice_get relations copy.source.0 ≡ Some source
  pub first_place : IsFirstPlaceBreak (copy_tried copy target source places) at first second

-- no two rows break one of these copy functions
abbrev pub NoCopyBreaks : List Relation → List CopyFunction → List Places → Type 0
NoCopyBreaks relations copies places = (k : ℕ) (copy : CopyFunction) → slice_get copies k ≡ Some copy
    → NoneBreaksCopy relations places copy

-- the first place and the first two rows that break one of these copy functions
pub record IsFirstCopyBreak (relations : List Relation) (copies : List CopyFunction) (places : List Places)
    (k at : ℕ) (first second : RowId) : Type 0 where
  pub copy : CopyFunction
  pub is_copy : slice_get copies k ≡ Some copy
  pub breaks : BreaksCopyFirst relations places copy at first second
  pub earlier : NoCopyBreaks relations (take k copies) places
