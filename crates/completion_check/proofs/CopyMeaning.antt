-- What the places of two rows say of a copy function's place.
use Rattle.std.proofs.Common.{◌≡◌, ◌≤◌, ◌<◌, ◌∙◌, ℕ, true, false, List, [], length, All, Option, Some, None, slice_get, slice_index, slice_index_or, refl, sym, ap, ⊎_elim, arith}
use Rattle.std.proofs.lemmas.Bool.{cases_lt, ltb-true, ltb-false, lt-ltb, le-ltb, eqb-true, eq-eqb, and_parts, and_from, not-true, not_from_false, false≢true}
use Rattle.std.proofs.lemmas.Option.{slice_get_within}
use Rattle.partial_orders.specs.Pairs.{entity_of}
use Rattle.currency_base.specs.declared.ids.RowId.{RowId}
use Rattle.copy_functions.specs.Copies.{CopyFunction, source_at}
use Rattle.copy_functions.specs.declared.place.Place.{Place}
use Rattle.spec_model.specs.Compatible.{KeepsSourceOrder, BreaksSourceOrder}
use Rattle.spec_model.specs.Completion.{Rankings}
use Rattle.spec_model.specs.Consistent.{copying}
use Rattle.spec_model.specs.Facts.{IsPlaceBetween, kinds_of}
use Rattle.spec_model.specs.declared.relation.Relation.{Relation}
use Rattle.completion_check.specs.Tests.{Places}
use Rattle.completion_check.specs.CopyTests.{CopyTried, is_one_entity, breaks_with, breaks_copy}
use Rattle.completion_check.specs.CopyBreaks.{copy_tried}
use Rattle.completion_check.proofs.Kept.{all_at}
use Rattle.completion_check.proofs.Meaning.{IsScene, before_at, below_at, attr_within}

-- ---- the test, and its parts

-- the place of a row in an attribute
abbrev place_of : Places → ℕ → RowId → ℕ
place_of places attr row = slice_index (slice_index_or places attr []) row.0

-- two rows that are mapped to rows of one entity, of which the first has the smaller place, and do not keep their order
record BreaksPlace (t : CopyTried) (place : Place) (first second : RowId) : Type 0 where
  first_source : RowId
  second_source : RowId
  first_is : source_at t.copy first ≡ Some first_source
  second_is : source_at t.copy second ≡ Some second_source
  ent : ℕ
  first_of : entity_of t.source_rows first_source.0 ≡ Some ent
  second_of : entity_of t.source_rows second_source.0 ≡ Some ent
  sources : place_of t.source_places place.source.0 first_source < place_of t.source_places place.source.0 second_source
  targets : place_of t.target_places place.target.0 second ≤ place_of t.target_places place.target.0 first

one_entity_is : (x y : Option ℕ) → is_one_entity x y ≡ true → (ent : ℕ) × (x ≡ Some ent) × (y ≡ Some ent)
one_entity_is (Some a) (Some b) e = (b, ap Some (eqb-true a b e), refl)
one_entity_is (Some a) None e = absurd (false≢true e)
one_entity_is None y e = absurd (false≢true e)

one_entity_from : (x y : Option ℕ) (ent : ℕ) → x ≡ Some ent → y ≡ Some ent → is_one_entity x y ≡ true
one_entity_from x y ent e f = ap (λ v. is_one_entity v y) e ∙ (ap (λ v. is_one_entity (Some ent) v) f ∙ eq-eqb ent ent refl)

parts_with : (t : CopyTried) (place : Place) (first second : RowId) (x y : Option RowId) → source_at t.copy first ≡ x
    → source_at t.copy second ≡ y
    → breaks_with t place first second x y ≡ true → BreaksPlace t place first second
parts_with t place first second (Some a) (Some b) is_a is_b passed =
    let both = and_parts _ _ passed in
    let source = and_parts _ _ both.0 in
    let one = one_entity_is (entity_of t.source_rows a.0) (entity_of t.source_rows b.0) source.0 in
    record {
      first_source = a;
      second_source = b;
      first_is = is_a;
      second_is = is_b;
      ent = one.0;
      first_of = one.1;
      second_of = one.2;
      sources = ltb-true _ _ source.1;
      targets = ltb-false _ _ (not-true _ both.1);
    }
parts_with t place first second (Some a) None is_a is_b passed = absurd (false≢true passed)
parts_with t place first second None y is_a is_b passed = absurd (false≢true passed)

-- rows that pass the test
parts_of : (t : CopyTried) (place : Place) (first second : RowId) → breaks_copy t place first second ≡ true
    → BreaksPlace t place first second
unfolding breaks_copy
parts_of t place first second passed = parts_with t place first second (source_at t.copy first)
    (source_at t.copy second) refl refl passed

-- and rows that do not
breaks_from : (t : CopyTried) (place : Place) (first second : RowId) → BreaksPlace t place first second
    → breaks_copy t place first second ≡ true
unfolding breaks_copy
breaks_from t place first second b =
    let e : breaks_with t place first second (source_at t.copy first) (source_at t.copy second) ≡ breaks_with t place
    first second (Some b.first_source) (Some b.second_source) =
    ap (λ (x : Option RowId). breaks_with t place first second x (source_at t.copy second)) b.first_is
    ∙ ap (λ (y : Option RowId). breaks_with t place first second (Some b.first_source) y) b.second_is in
    e ∙ and_from _ _
    (and_from _ _ (one_entity_from (entity_of t.source_rows b.first_source.0)
    (entity_of t.source_rows b.second_source.0) b.ent b.first_of b.second_of) (lt-ltb _ _ b.sources))
    (not_from_false _ (le-ltb _ _ b.targets))

-- ---- the definition

-- a copy function between two relations of a completion, and the places of their rows
pub record IsCopyScene (copy : CopyFunction) (target source : Relation) (c : Rankings) (places : List Places) : Type 0 where
  pub in_target : IsScene target (slice_index_or c copy.target.0 []) (slice_index_or places copy.target.0 [])
  pub in_source : IsScene source (slice_index_or c copy.source.0 []) (slice_index_or places copy.source.0 [])
  pub among : All (IsPlaceBetween target source) copy.places

target_within : (target source : Relation) (place : Place) → IsPlaceBetween target source place
    → place.target.0 < length target.attrs
target_within target source place is = attr_within target place.target.0
    (slice_get_within (kinds_of target) place.target.0 is.kind is.in_target)

source_within : (target source : Relation) (place : Place) → IsPlaceBetween target source place
    → place.source.0 < length source.attrs
source_within target source place is = attr_within source place.source.0
    (slice_get_within (kinds_of source) place.source.0 is.kind is.in_source)

-- two rows that break no place keep the order of their sources
pub keeps_unbroken : (copy : CopyFunction) (target source : Relation) (c : Rankings) (places : List Places) (at : ℕ)
    (place : Place) (first second : RowId)
    → IsCopyScene copy target source c places → slice_get copy.places at ≡ Some place
    → ((ent : ℕ) → entity_of target.rows first.0 ≡ Some ent → entity_of target.rows second.0 ≡ Some ent → breaks_copy
    (copy_tried copy target source places) place first second ≡ false)
    → KeepsSourceOrder (copying copy target source c) place first second
keeps_unbroken copy target source c places at place first second scene at_place unbroken rows before =
    let is = all_at (IsPlaceBetween target source) copy.places at place scene.among at_place in
    let tried = copy_tried copy target source places in
    let above = below_at source (slice_index_or c copy.source.0 []) (slice_index_or places copy.source.0 [])
    place.source.0 rows.first_source rows.second_source scene.in_source
    (source_within target source place is) before in
    ⊎_elim
    (λ (less : place_of tried.target_places place.target.0 first < place_of tried.target_places place.target.0 second).
    before_at target (slice_index_or c copy.target.0 []) (slice_index_or places copy.target.0 []) place.target.0
    rows.ent first second scene.in_target
    (target_within target source place is) rows.first_of rows.second_of less)
    (λ (most : place_of tried.target_places place.target.0 second ≤ place_of tried.target_places place.target.0 first).
    let broken : BreaksPlace tried place first second =
    record {
      first_source = rows.first_source;
      second_source = rows.second_source;
      first_is = rows.first_is;
      second_is = rows.second_is;
      ent = rows.source_ent;
      first_of = rows.first_source_of;
      second_of = rows.second_source_of;
      sources = above;
      targets = most;
    } in
    absurd (false≢true (sym (unbroken rows.ent rows.first_of rows.second_of) ∙ breaks_from tried place first second broken)))
    (cases_lt (place_of tried.target_places place.target.0 first) (place_of tried.target_places place.target.0 second))

-- and two rows of one entity that break one do not
pub breaks_broken : (copy : CopyFunction) (target source : Relation) (c : Rankings) (places : List Places) (at : ℕ)
    (place : Place) (ent : ℕ) (first second : RowId)
    → IsCopyScene copy target source c places → slice_get copy.places at ≡ Some place → entity_of target.rows
    first.0 ≡ Some ent → entity_of target.rows second.0 ≡ Some ent
    → breaks_copy (copy_tried copy target source places) place first second ≡ true → BreaksSourceOrder
    (copying copy target source c) place first second
breaks_broken copy target source c places at place ent first second scene at_place of_first of_second passed =
    let is = all_at (IsPlaceBetween target source) copy.places at place scene.among at_place in
    let b = parts_of (copy_tried copy target source places) place first second passed in
    record {
      rows = record {
        first_source = b.first_source;
        second_source = b.second_source;
        first_is = b.first_is;
        second_is = b.second_is;
        ent = ent;
        first_of = of_first;
        second_of = of_second;
        source_ent = b.ent;
        first_source_of = b.first_of;
        second_source_of = b.second_of;
      };
      sources = before_at source (slice_index_or c copy.source.0 []) (slice_index_or places copy.source.0 [])
          place.source.0 b.ent b.first_source b.second_source scene.in_source
          (source_within target source place is) b.first_of b.second_of b.sources;
      targets = λ before.
          let less = below_at target (slice_index_or c copy.target.0 []) (slice_index_or places copy.target.0 [])
          place.target.0 first second scene.in_target
          (target_within target source place is) before in
          absurd (omega (arith, less, b.targets));
    }
