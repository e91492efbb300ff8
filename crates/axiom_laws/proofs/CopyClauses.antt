-- Mapped rows keep the order of their sources.
use Rattle.std.proofs.Common.{◌≡◌, ◌==◌, ◌&&◌, ◌<◌, ℕ, true, not, cond, List, [], ◌∷◌, All, Option, Some, None, length, slice_get, refl, subst, inl, inr, arith}
use Rattle.std.proofs.lemmas.Bool.{and_parts}
use Rattle.std.proofs.lemmas.List.{length-map}
use Rattle.std.proofs.lemmas.Option.{same_Some, none-some, slice_get_within}
use Rattle.currency_base.specs.declared.ids.RowId.{RowId}
use Rattle.copy_functions.specs.Copies.{CopyFunction, source_at}
use Rattle.copy_functions.specs.declared.place.Place.{Place}
use Rattle.partial_orders.specs.Pairs.{entity_of}
use Rattle.spec_model.specs.Compatible.{AreCopiedTogether, IsCompatible}
use Rattle.spec_model.specs.Completion.{Rankings, lists_of, Before}
use Rattle.spec_model.specs.Consistent.{copying}
use Rattle.spec_model.specs.Facts.{IsPlaceBetween, kinds_of}
use Rattle.spec_model.specs.declared.relation.Relation.{Relation}
use Rattle.log_axioms.specs.Axioms.{before, not_before, same_entity, are_two, place_clause, copy_clause}
use Rattle.log_axioms.specs.declared.signed.Signed.{Signed}
use Rattle.axiom_laws.proofs.Chosen.{HasTrue, IsCase, true_first, true_later, given_if, two_are}
use Rattle.axiom_laws.proofs.Decisions.{Decided, before_or}
use Rattle.axiom_laws.proofs.SaysSame.{one_is}
use Rattle.axiom_laws.proofs.Standing.{all_at}

-- the relations of a copy function, which the completion is compatible with
pub record IsCopyCase (relations : List Relation) (c : Rankings) (copy : CopyFunction) (target source : Relation) : Type 0 where
  pub case : IsCase relations c
  pub is_target : slice_get relations copy.target.0 ≡ Some target
  pub is_source : slice_get relations copy.source.0 ≡ Some source
  pub places : All (IsPlaceBetween target source) copy.places
  pub compatible : IsCompatible (copying copy target source c)

-- the rows of a copy function, of which the tests say that they are two and two
record AreMappedRows (copy : CopyFunction) (target source : Relation) (first second s w : RowId) : Type 0 where
  first_is : source_at copy first ≡ Some s
  second_is : source_at copy second ≡ Some w
  targets : are_two target.rows first second ≡ true
  sources : are_two source.rows s w ≡ true

-- the order of the sources is denied, or kept
order_kept : (relations : List Relation) (c : Rankings) (answers : ℕ → Type 0) (copy : CopyFunction)
    (target source : Relation) (at : ℕ)
    (place : Place) (first second s w : RowId)
    → IsCopyCase relations c copy target source → slice_get copy.places at ≡ Some place
    → AreMappedRows copy target source first second s w
    → Decided (Before (lists_of c copy.source.0 place.source.0) s w)
    → HasTrue relations c answers (not_before copy.source place.source s w ∷ before copy.target place.target first second ∷ [])
order_kept relations c answers copy target source at place first second s w is is_place rows (inr n) =
    let between = all_at (IsPlaceBetween target source) copy.places at place is.places is_place in
    let long = length-map source.attrs (λ a. a.kind) in
    let listed = slice_get_within (kinds_of source) place.source.0 between.kind between.in_source in
    let inside : place.source.0 < length source.attrs = omega (arith, long, listed) in
    true_first (two_are relations copy.source.0 source place.source.0 s w is.case.facts is.is_source inside rows.sources) n
order_kept relations c answers copy target source at place first second s w is is_place rows (inl h) =
    let targets = two_in target first second rows.targets in
    let sources = two_in source s w rows.sources in
    let together : AreCopiedTogether copy target.rows source.rows first second = record {
      first_source = s;
      second_source = w;
      first_is = rows.first_is;
      second_is = rows.second_is;
      ent = targets.0;
      first_of = targets.1;
      second_of = targets.2;
      source_ent = sources.0;
      first_source_of = sources.1;
      second_source_of = sources.2;
    } in
    true_later (true_first tt (is.compatible at place is_place first second together h))
  where
    two_in : (r : Relation) (a b : RowId) → are_two r.rows a b ≡ true
        → (ent : ℕ) × (entity_of r.rows a.0 ≡ Some ent) × (entity_of r.rows b.0 ≡ Some ent)
    two_in r a b e =
        let both = and_parts (same_entity r.rows a b) (not (a.0 == b.0)) e in
        one_is (entity_of r.rows a.0) (entity_of r.rows b.0) both.0

at_place : (relations : List Relation) (c : Rankings) (answers : ℕ → Type 0) (copy : CopyFunction)
    (target source : Relation) (at : ℕ)
    (first second s w : RowId) (clause : List Signed)
    → IsCopyCase relations c copy target source → AreMappedRows copy target source first second s w
    → (o : Option Place) → slice_get copy.places at ≡ o → place_clause copy first second s w o ≡ Some clause
    → HasTrue relations c answers clause
at_place relations c answers copy target source at first second s w clause is rows None is_place e = absurd (none-some clause e)
at_place relations c answers copy target source at first second s w clause is rows (Some place) is_place e =
    subst (HasTrue relations c answers)
    (same_Some (not_before copy.source place.source s w ∷ before copy.target place.target first second ∷ []) clause e)
    (order_kept relations c answers copy target source at place first second s w is is_place rows
    (before_or (lists_of c copy.source.0 place.source.0) s w))

-- the clause of two rows whose sources are these
sources_clause : CopyFunction → ℕ → RowId → RowId → Relation → Relation → Option RowId → Option RowId → Option (List Signed)
sources_clause copy place first second target source (Some s) (Some w) =
    cond (are_two target.rows first second && are_two source.rows s w)
    (place_clause copy first second s w (slice_get copy.places place)) None
sources_clause copy place first second target source s w = None

pub copy_true : (relations : List Relation) (c : Rankings) (answers : ℕ → Type 0) (copy : CopyFunction) (place : ℕ)
    (first second : RowId)
    (target source : Relation) (clause : List Signed)
    → IsCopyCase relations c copy target source → copy_clause copy place first second target source ≡ Some clause
    → HasTrue relations c answers clause
unfolding sources_clause
copy_true relations c answers copy place first second target source clause is e =
    by (source_at copy first) (source_at copy second) refl refl e
  where
    by : (x y : Option RowId) → source_at copy first ≡ x → source_at copy second ≡ y
        → sources_clause copy place first second target source x y ≡ Some clause → HasTrue relations c answers clause
    by None y f g e = absurd (none-some clause e)
    by (Some s) None f g e = absurd (none-some clause e)
    by (Some s) (Some w) f g e =
        let parts = given_if (are_two target.rows first second && are_two source.rows s w)
        (place_clause copy first second s w (slice_get copy.places place)) clause e in
        let both = and_parts (are_two target.rows first second) (are_two source.rows s w) parts.0 in
        at_place relations c answers copy target source place first second s w clause is
        record { first_is = f; second_is = g; targets = both.0; sources = both.1 } (slice_get copy.places place) refl parts.1
