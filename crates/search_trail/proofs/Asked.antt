-- What is asked of a trail whose parts fit each other.
use Rattle.std.proofs.Common.{◌≡◌, ◌<◌, ◌+◌, ◌∙◌, ℕ, suc, ltb, Bor, IfSome, Bool, true, false, not, List, Option, Some, None, is_some, length, get_or, slice_get, slice_index_or, refl, sym, ap, subst, arith}
use Rattle.std.specs.Option.{option_copied}
use Rattle.std.proofs.lemmas.Bool.{leb-false, leb-true}
use Rattle.std.proofs.lemmas.List.{get_or_read}
use Rattle.std.proofs.lemmas.Option.{slice_get_within, get_or_from_slice_get, slice_get_past, slice_get_read}
use Rattle.currency_base.specs.declared.lit.Lit.{Lit}
use Rattle.search_trail.specs.Trails.{IsFree, StandsAt, reason_in, value_in}
use Rattle.search_trail.specs.Kept.{IsTrail, entries_of, reason_at}
use Rattle.search_trail.proofs.EntryFacts.{entry_of, entry_at, lit_at, lits_of_entries, as_many, reason_there, reason_none}
use Rattle.search_trail.proofs.LitFacts.{place_of}
use Rattle.search_trail.proofs.ValueLists.{values_at}

module _ (values : List (Option Bool)) (lits : List Lit) (places reasons starts : List ℕ) (gone lits_room starts_room : ℕ)
    (is : IsTrail values lits places reasons starts gone lits_room starts_room) where
  value_known : (var : ℕ) (r : Option Bool) → slice_get values var ≡ Some r → value_in lits var ≡ r
  value_known var r at =
      sym (values_at lits (length values) var (slice_get_within values var r at))
      ∙ ap (λ vs. get_or vs var None) (sym is.values_are) ∙ get_or_from_slice_get values var r None at

  -- a variable that has no value has no reason
  pub reason_free : (var : ℕ) (r : Option Bool) (none : Bool) → slice_get values var ≡ Some r → is_some r ≡ not none → none ≡ true
      → None ≡ reason_in (entries_of reasons lits) var
  reason_free var (Some b) none at some is_none = absurd (cc)
  reason_free var None none at some is_none = sym (reason_none reasons lits var (value_known var None at))

  -- and one that has a value that of its number
  pub reason_held : (var : ℕ) (r : Option Bool) (none : Bool) (n : ℕ) → slice_get values var ≡ Some r
      → is_some r ≡ not none → none ≡ false
      → n ≡ get_or reasons var n → reason_at n ≡ reason_in (entries_of reasons lits) var
  reason_held var None none n at some is_some read = absurd (cc)
  reason_held var (Some b) none n at some is_some read =
      let within : var < length reasons = omega (arith, slice_get_within values var (Some b) at, is.reasons_length) in
      let there : n ≡ slice_index_or reasons var 4294967295 = get_or_read reasons var n within read 4294967295 in
      ap reason_at there ∙ sym (reason_there reasons lits var b (value_known var (Some b) at))

  -- the place of a variable that has a value
  pub place_known : (var n : ℕ) (scope : List ℕ) → var < length values → n ≡ get_or places var n
      → (IsFree (record { vars = length values; entries = entries_of reasons lits; starts = starts; gone = gone; scope = scope })
      var → ⊥)
      → StandsAt (record { vars = length values; entries = entries_of reasons lits; starts = starts; gone = gone; scope = scope })
      var n
  place_known var n scope within read given =
      let there : n ≡ slice_index_or places var 0 = get_or_read places var n (omega (arith, within, is.places_length)) read 0 in
      let found = place_of lits var (λ none. given (ap (λ (ls : List Lit). value_in ls var)
      (lits_of_entries reasons lits) ∙ none)) in
      let same : n ≡ found.0 = there ∙ ap (λ v. slice_index_or places v 0) (sym found.3) ∙ is.places_are found.0
      found.1 found.2 in
      record {
        entry = entry_of reasons found.1;
        is_entry = subst (λ m. slice_get (entries_of reasons lits) m ≡ Some (entry_of reasons found.1)) (sym same)
            (entry_at reasons lits found.0 found.1 found.2);
        is_of = found.3;
      }

  -- and it is the one where the variable stands
  pub place_read : (var place n : ℕ) (scope : List ℕ) → var < length values → n ≡ get_or places var n
      → StandsAt (record { vars = length values; entries = entries_of reasons lits; starts = starts; gone = gone; scope = scope })
      var place → n ≡ place
  place_read var place n scope within read stands =
      let there : n ≡ slice_index_or places var 0 = get_or_read places var n (omega (arith, within, is.places_length)) read 0 in
      there ∙ ap (λ v. slice_index_or places v 0) (sym stands.is_of)
      ∙ is.places_are place stands.entry.lit (lit_at reasons lits place stands.entry stands.is_entry)

  -- one more entry is gone through
  pub fits_passed : gone < length (entries_of reasons lits) → IsTrail values lits places reasons starts (gone + 1)
      lits_room starts_room
  fits_passed less =
      record {
        values_are = is.values_are;
        few = is.few;
        places_length = is.places_length;
        reasons_length = is.reasons_length;
        places_are = is.places_are;
        within = is.within;
        once = is.once;
        ascend = is.ascend;
        begun = is.begun;
        assumed = is.assumed;
        gone_within = omega (arith, less, as_many reasons lits);
        lits_fit = is.lits_fit;
        starts_fit = is.starts_fit;
      }

-- a look at a place of a list gives the item there
pub looked_up : (xs : List Lit) (i : ℕ) (r : Option (Bor Lit)) → is_some r ≡ ltb i (length xs)
    → IfSome r (λ (x : Bor Lit). x.now ≡ get_or xs i x.now)
    → option_copied r ≡ slice_get xs i
looked_up xs i (Some x) within item =
    let h : i < length xs = leb-true (suc i) (length xs) (sym within) in
    sym (slice_get_read xs (length xs) i x.now refl h item)
looked_up xs i None past item =
    let h : length xs < suc i = leb-false (suc i) (length xs) (sym past) in
    sym (slice_get_past xs i (omega (arith, h)))
