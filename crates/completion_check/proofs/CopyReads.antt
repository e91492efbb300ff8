-- The relations of a copy function, and the places of their rows, as they are read.
use Rattle.std.proofs.Common.{◌≡◌, ◌<◌, ◌∙◌, ℕ, List, [], Option, Some, None, All, IfNone, length, get_or, slice_get, slice_index_or, refl, sym, ap, subst, arith}
use Rattle.std.proofs.lemmas.List.{get_or_read}
use Rattle.std.proofs.lemmas.Option.{same_Some, slice_get_within, slice_get_read}
use Rattle.currency_base.specs.declared.ids.RowId.{RowId}
use Rattle.copy_functions.specs.Copies.{CopyFunction, IsCopied}
use Rattle.spec_model.specs.Facts.{IsPlaceBetween, IsCopyAmong}
use Rattle.spec_model.specs.declared.relation.Relation.{Relation}
use Rattle.completion_check.specs.Tests.{Places}
use Rattle.completion_check.specs.CopyBreaks.{NoPlaceBreaks, IsFirstPlaceBreak, NoneBreaksCopy, BreaksCopyFirst, tried_between, copy_tried}

-- the item that is read at a place, where there is one
read_at : {A : Type 0} (xs : List A) (n m : ℕ) (x y : A) → m ≡ n → slice_get xs n ≡ Some y → x ≡ get_or xs m x
    → slice_get xs n ≡ Some x
read_at xs n m x y same at read =
    let within : m < length xs = omega (arith, slice_get_within xs n y at) in
    ap (slice_get xs) (sym same) ∙ slice_get_read xs (length xs) m x refl within read

-- the list that is read at a place, as the one there or the empty one
pub list_at : {A : Type 0} (xs : List (List A)) (n m : ℕ) (x : List A) → m ≡ n → n < length xs → x ≡ get_or xs m x
    → x ≡ slice_index_or xs n []
list_at xs n m x same within read =
    let inside : m < length xs = omega arith in
    get_or_read xs m x inside read [] ∙ ap (λ (k : ℕ). slice_index_or xs k []) same

-- the numbers of a copy function's relations are those of relations
pub target_within : (relations : List Relation) (copy : CopyFunction) (m : ℕ) → IsCopyAmong relations copy → m ≡ copy.target.0
    → m < length relations
target_within relations copy m among is =
    subst (λ (n : ℕ). n < length relations) (sym is) (slice_get_within relations copy.target.0 among.target among.is_target)

pub source_within : (relations : List Relation) (copy : CopyFunction) (m : ℕ) → IsCopyAmong relations copy → m ≡ copy.source.0
    → m < length relations
source_within relations copy m among is =
    subst (λ (n : ℕ). n < length relations) (sym is) (slice_get_within relations copy.source.0 among.source among.is_source)

-- the two relations of a copy function, and the places of their rows
pub record AreOfCopy (relations : List Relation) (places : List Places) (copy : CopyFunction)
    (target source : Relation) (target_places source_places : Places) : Type 0 where
  pub is_target : slice_get relations copy.target.0 ≡ Some target
  pub is_source : slice_get relations copy.source.0 ≡ Some source
  pub in_target : target_places ≡ slice_index_or places copy.target.0 []
  pub in_source : source_places ≡ slice_index_or places copy.source.0 []

-- these are what is read at the numbers of the copy function's relations
pub are_read : (relations : List Relation) (places : List Places) (copy : CopyFunction) (m n : ℕ)
    (target source : Relation) (target_places source_places : Places)
    → IsCopyAmong relations copy → length places ≡ length relations → m ≡ copy.target.0 → n ≡ copy.source.0
    → target ≡ get_or relations m target → source ≡ get_or relations n source
    → target_places ≡ get_or places m target_places → source_places ≡ get_or places n source_places
    → AreOfCopy relations places copy target source target_places source_places
are_read relations places copy m n target source target_places source_places among count is_m is_n read_target
    read_source read_target_places read_source_places =
    let target_within : copy.target.0 < length places = omega (
      arith,
      count,
      slice_get_within relations copy.target.0
          among.target among.is_target,
    ) in
    let source_within : copy.source.0 < length places = omega (
      arith,
      count,
      slice_get_within relations copy.source.0
          among.source among.is_source,
    ) in
    record {
      is_target = read_at relations copy.target.0 m target among.target is_m among.is_target read_target;
      is_source = read_at relations copy.source.0 n source among.source is_n among.is_source read_source;
      in_target = list_at places copy.target.0 m target_places is_m target_within read_target_places;
      in_source = list_at places copy.source.0 n source_places is_n source_within read_source_places;
    }

-- the copy function's places are between the two
pub places_between : (relations : List Relation) (places : List Places) (copy : CopyFunction) (target source : Relation)
    (target_places source_places : Places)
    → IsCopyAmong relations copy → AreOfCopy relations places copy target source target_places source_places
    → All (IsPlaceBetween target source) copy.places
places_between relations places copy target source target_places source_places among are =
    let one_target = same_Some among.target target (sym among.is_target ∙ are.is_target) in
    let one_source = same_Some among.source source (sym among.is_source ∙ are.is_source) in
    subst (λ (r : Relation). All (IsPlaceBetween target r) copy.places) one_source
    (subst (λ (r : Relation). All (IsPlaceBetween r among.source) copy.places) one_target among.places)

-- and its mapped rows have the values of their source rows
pub copied_between : (relations : List Relation) (places : List Places) (copy : CopyFunction) (target source : Relation)
    (target_places source_places : Places)
    → IsCopyAmong relations copy → AreOfCopy relations places copy target source target_places source_places
    → IsCopied copy target.rows source.rows
copied_between relations places copy target source target_places source_places among are =
    let one_target = same_Some among.target target (sym among.is_target ∙ are.is_target) in
    let one_source = same_Some among.source source (sym among.is_source ∙ are.is_source) in
    subst (λ (r : Relation). IsCopied copy target.rows r.rows) one_source
    (subst (λ (r : Relation). IsCopied copy r.rows among.source.rows) one_target among.copied)

tried_same : (relations : List Relation) (places : List Places) (copy : CopyFunction) (target source : Relation)
    (target_places source_places : Places)
    → AreOfCopy relations places copy target source target_places source_places
    → tried_between copy target source target_places source_places ≡ copy_tried copy target source places
tried_same relations places copy target source target_places source_places are =
    ap (λ (p : Places). tried_between copy target source p source_places) are.in_target
    ∙ ap (λ (p : Places). tried_between copy target source (slice_index_or places copy.target.0 []) p) are.in_source

-- what two rows of these break first
pub breaks_first : (relations : List Relation) (places : List Places) (copy : CopyFunction)
    (target source : Relation) (target_places source_places : Places) (at : ℕ) (first second : RowId)
    → AreOfCopy relations places copy target source target_places source_places
    → IsFirstPlaceBreak (tried_between copy target source target_places source_places) at first second
    → BreaksCopyFirst relations places copy at first second
breaks_first relations places copy target source target_places source_places at first second are found =
    record {
      target = target;
      source = source;
      is_target = are.is_target;
      is_source = are.is_source;
      first_place = rw (tried_same relations places copy target source target_places source_places are) at found;
    }

-- or that they break none
pub none_breaks : (relations : List Relation) (places : List Places) (copy : CopyFunction) (target source : Relation)
    (target_places source_places : Places)
    → AreOfCopy relations places copy target source target_places source_places
    → NoPlaceBreaks (tried_between copy target source target_places source_places) → NoneBreaksCopy relations places copy
none_breaks relations places copy target source target_places source_places are none target' source' at_target at_source =
    let one_target : target ≡ target' = same_Some target target' (sym are.is_target ∙ at_target) in
    let one_source : source ≡ source' = same_Some source source' (sym are.is_source ∙ at_source) in
    let here : NoPlaceBreaks (copy_tried copy target source places) =
    rw (← tried_same relations places copy target source target_places source_places are) none in
    subst (λ (r : Relation). NoPlaceBreaks (copy_tried copy target' r places)) one_source
    (subst (λ (r : Relation). NoPlaceBreaks (copy_tried copy r source places)) one_target here)

-- what follows from what is so where nothing is found
pub IfNone_then : {X P Q : Type 0} (r : Option X) → (P → Q) → IfNone r P → IfNone r Q
IfNone_then None then h = then h
IfNone_then (Some x) then h = h
