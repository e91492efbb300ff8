-- The parts of a trail fit each other: at the start, with one more literal, and without the levels above one.
use Rattle.std.proofs.Common.{◌≡◌, ◌⊎◌, ◌<◌, ◌≤◌, ◌+◌, ◌^◌, ◌∙◌, min, ℕ, Bool, not, List, [], ◌∷◌, ◌++◌, Option, Some, None, All, length, take, drop, replicate, slice_get, slice_set, slice_index_or, sym, ap, subst, inl, inr, arith}
use Rattle.std.proofs.lemmas.Bool.{cases_eq}
use Rattle.std.proofs.lemmas.List.{get_or-set_other, get_or-set_same, length-set, length-replicate, length-take, take-append-drop}
use Rattle.std.proofs.lemmas.List.Elements.{All-push, All-take, All-nil}
use Rattle.std.proofs.lemmas.List.FromFn.{length-map-range_with_len}
use Rattle.currency_base.specs.Literals.{var_of, is_negative}
use Rattle.currency_base.specs.declared.lit.Lit.{Lit}
use Rattle.search_trail.specs.Trails.{AreEntries, Ascend, value_in}
use Rattle.search_trail.specs.Kept.{IsTrail, Once, entries_of, freed}
use Rattle.search_trail.proofs.LitFacts.{once_push, once_left, has_value, room_for, few_lits}
use Rattle.search_trail.proofs.EntryFacts.{as_many, all_within, entries_once, lit_at, no_reason, reason_of_entry}
use Rattle.search_trail.proofs.LevelFacts.{AreBelow, get_take, get_taken, get_push, get_kept, get_last, length_more, few_starts, ascend_push, below_push, opened_below}
use Rattle.search_trail.proofs.ValueLists.{values_by, no_values, values_push, values_freed}

-- no literal
pub fits_new : (vars lits_room starts_room : ℕ) → vars ≤ 2 ^ 31 → vars ≤ lits_room → vars ≤ starts_room
    → IsTrail (replicate vars None) [] (replicate vars 0) (replicate vars 4294967295) [] 0 lits_room starts_room
fits_new vars lits_room starts_room few lits_fit starts_fit =
    let long : length (replicate {A = Option Bool} vars None) ≡ vars = length-replicate vars None in
    record {
      values_are = no_values vars ∙ ap (values_by []) (sym long);
      few = omega (arith, few, long);
      places_length = length-replicate vars 0 ∙ sym long;
      reasons_length = length-replicate vars 4294967295 ∙ sym long;
      places_are = λ place lit is. absurd (cc);
      within = All-nil (λ lit. var_of lit < length (replicate {A = Option Bool} vars None));
      once = tt;
      ascend = λ i j low high h a b. absurd (cc);
      begun = λ i start is. absurd (cc);
      assumed = λ place lit is none. absurd (cc);
      gone_within = omega arith;
      lits_fit = omega (arith, lits_fit, long);
      starts_fit = omega (arith, starts_fit, long);
    }

module _ (values : List (Option Bool)) (lits : List Lit) (places reasons starts : List ℕ) (gone lits_room starts_room : ℕ)
    (is : IsTrail values lits places reasons starts gone lits_room starts_room) where
  pub levels_few : length starts ≤ length lits
  levels_few = few_starts starts (length lits) is.ascend is.begun

  pub lits_few : length lits ≤ length values
  lits_few = few_lits (length values) lits is.once is.within

  module _ (lit : Lit) (inside : var_of lit < length values) (fresh : value_in lits (var_of lit) ≡ None) where
    pub has_room : length lits + 1 ≤ length values
    has_room = room_for (length values) lits lit is.once is.within inside fresh

    differs : (place : ℕ) (l : Lit) → slice_get lits place ≡ Some l → var_of l ≡ var_of lit → ⊥
    differs place l there e = has_value lits place l there (subst (λ v. value_in lits v ≡ None) (sym e) fresh)

    places_more : (place : ℕ) (l : Lit) → slice_get (lits ++ lit ∷ []) place ≡ Some l → slice_index_or
        (slice_set places (var_of lit) (length lits)) (var_of l) 0 ≡ place
    places_more place l at = go (get_push lits lit place l at)
      where
        go : (slice_get lits place ≡ Some l) ⊎ ((place ≡ length lits) × (lit ≡ l)) → slice_index_or
            (slice_set places (var_of lit) (length lits)) (var_of l) 0 ≡ place
        go (inl there) = get_or-set_other places (var_of lit) (var_of l) (length lits) 0 (differs place l there)
            ∙ is.places_are place l there
        go (inr here) =
            ap (λ (m : Lit). slice_index_or (slice_set places (var_of lit) (length lits)) (var_of m) 0) (sym here.1)
            ∙ get_or-set_same places (var_of lit) (length lits) 0 (omega (arith, inside, is.places_length)) ∙ sym here.0

    -- an entry with no reason opens a level, if the new one does
    assumed_more : (starts' : List ℕ) (reason : ℕ) → ((i start : ℕ) → slice_get starts i ≡ Some start
        → slice_get starts' i ≡ Some start)
        → (reason ≡ 4294967295 → (i : ℕ) × (slice_get starts' i ≡ Some (length lits)))
        → (place : ℕ) (l : Lit) → slice_get (lits ++ lit ∷ []) place ≡ Some l → slice_index_or
        (slice_set reasons (var_of lit) reason) (var_of l) 4294967295 ≡ 4294967295
        → (i : ℕ) × (slice_get starts' i ≡ Some place)
    assumed_more starts' reason keeps opens place l at none = go (get_push lits lit place l at)
      where
        go : (slice_get lits place ≡ Some l) ⊎ ((place ≡ length lits) × (lit ≡ l)) → (i : ℕ) × (slice_get starts' i ≡ Some place)
        go (inl there) =
            let was = is.assumed place l there
            (sym (get_or-set_other reasons (var_of lit) (var_of l) reason 4294967295 (differs place l there)) ∙ none) in
            (was.0, keeps was.0 place was.1)
        go (inr here) =
            let set : slice_index_or (slice_set reasons (var_of lit) reason) (var_of lit) 4294967295 ≡ reason =
            get_or-set_same reasons (var_of lit) reason 4294967295 (omega (arith, inside, is.reasons_length)) in
            let now = opens (sym set ∙ ap (λ (m : Lit). slice_index_or (slice_set reasons (var_of lit) reason)
            (var_of m) 4294967295) here.1 ∙ none) in
            (now.0, now.1 ∙ ap (λ (n : ℕ). Some n) (sym here.0))

    -- one more literal, where what begins is begun before or with it
    fits_more : (starts' : List ℕ) (reason lits_room' starts_room' : ℕ) →
        ((i start : ℕ) → slice_get starts i ≡ Some start → slice_get starts' i ≡ Some start)
        → (reason ≡ 4294967295 → (i : ℕ) × (slice_get starts' i ≡ Some (length lits))) → Ascend starts'
        → AreBelow starts' (length lits + 1) → lits_room ≤ lits_room' → starts_room ≤ starts_room'
        → IsTrail (slice_set values (var_of lit) (Some (not (is_negative lit)))) (lits ++ lit ∷ [])
        (slice_set places (var_of lit) (length lits))
        (slice_set reasons (var_of lit) reason) starts' gone lits_room' starts_room'
    fits_more starts' reason lits_room' starts_room' keeps opens ascend below lits_grow starts_grow =
        let long : length (slice_set values (var_of lit) (Some (not (is_negative lit)))) ≡ length values =
        length-set values (var_of lit) (Some (not (is_negative lit))) in
        let more : length (lits ++ lit ∷ []) ≡ length lits + 1 = length_more lits lit in
        let all : All (λ l. var_of l < length values) (lits ++ lit ∷ []) = All-push (λ l. var_of l < length values)
        lits lit is.within inside in
        record {
          values_are = ap (λ (vs : List (Option Bool)). slice_set vs (var_of lit) (Some (not (is_negative lit)))) is.values_are
              ∙ values_push lits lit (length values) fresh inside ∙ ap (values_by (lits ++ lit ∷ [])) (sym long);
          few = omega (arith, long, is.few);
          places_length = length-set places (var_of lit) (length lits) ∙ is.places_length ∙ sym long;
          reasons_length = length-set reasons (var_of lit) reason ∙ is.reasons_length ∙ sym long;
          places_are = places_more;
          within = subst (λ n. All (λ l. var_of l < n) (lits ++ lit ∷ [])) (sym long) all;
          once = once_push lits lit is.once fresh;
          ascend = ascend;
          begun = λ i start at. let h = below i start at in omega (arith, h, more);
          assumed = assumed_more starts' reason keeps opens;
          gone_within = omega (arith, is.gone_within, more);
          lits_fit = omega (arith, long, is.lits_fit, lits_grow);
          starts_fit = omega (arith, long, is.starts_fit, starts_grow);
        }

    pub fits_implied : (reason lits_room' : ℕ) → reason < 4294967295 → lits_room ≤ lits_room'
        → IsTrail (slice_set values (var_of lit) (Some (not (is_negative lit)))) (lits ++ lit ∷ [])
        (slice_set places (var_of lit) (length lits))
        (slice_set reasons (var_of lit) reason) starts gone lits_room' starts_room
    fits_implied reason lits_room' few grow =
        fits_more starts reason lits_room' starts_room (λ i start at. at) (λ e. absurd (omega (arith, e, few))) is.ascend
        (λ i s at. let h = is.begun i s at in omega (arith, h)) grow (omega arith)

    pub fits_assumed : (reason lits_room' starts_room' : ℕ) → lits_room ≤ lits_room' → starts_room ≤ starts_room'
        → IsTrail (slice_set values (var_of lit) (Some (not (is_negative lit)))) (lits ++ lit ∷ [])
        (slice_set places (var_of lit) (length lits))
        (slice_set reasons (var_of lit) reason) (starts ++ length lits ∷ []) gone lits_room' starts_room'
    fits_assumed reason lits_room' starts_room' lits_grow starts_grow =
        fits_more (starts ++ length lits ∷ []) reason lits_room' starts_room' (get_kept starts (length lits))
        (λ e. (length starts, get_last starts (length lits))) (ascend_push starts (length lits) is.ascend is.begun)
        (below_push starts (length lits) is.begun) lits_grow starts_grow

  -- without the levels above one
  pub fits_undone : (level cut : ℕ) (values' : List (Option Bool)) (lits_room' starts_room' : ℕ)
      → slice_get starts level ≡ Some cut → values' ≡ freed values (drop cut lits)
      → lits_room ≤ lits_room' → starts_room ≤ starts_room'
      → IsTrail values' (take cut lits) places reasons (take level starts) (min gone cut) lits_room' starts_room'
  fits_undone level cut values' lits_room' starts_room' at freeing lits_grow starts_grow =
      let halves : take cut lits ++ drop cut lits ≡ lits = take-append-drop cut lits in
      let once : Once (take cut lits ++ drop cut lits) = subst Once (sym halves) is.once in
      let split : values ≡ values_by (take cut lits ++ drop cut lits) (length values) = is.values_are
      ∙ ap (λ ls. values_by ls (length values)) (sym halves) in
      let left : values' ≡ values_by (take cut lits) (length values) =
      freeing ∙ ap (λ vs. freed vs (drop cut lits)) split ∙ values_freed (take cut lits) (drop cut lits) (length values) once in
      let long : length values' ≡ length values = ap length left ∙ length-map-range_with_len
      (value_in (take cut lits)) 0 (length values) in
      let short : length (take cut lits) ≡ min cut (length lits) = length-take cut lits in
      let begins : cut < length lits = is.begun level cut at in
      record {
        values_are = left ∙ ap (values_by (take cut lits)) (sym long);
        few = omega (arith, long, is.few);
        places_length = is.places_length ∙ sym long;
        reasons_length = is.reasons_length ∙ sym long;
        places_are = λ place l there. is.places_are place l (get_take cut place lits l there).1;
        within = subst (λ n. All (λ l. var_of l < n) (take cut lits)) (sym long)
            (All-take (λ l. var_of l < length values) cut lits is.within);
        once = once_left (take cut lits) (drop cut lits) once;
        ascend = λ i j low high h a b. is.ascend i j low high h (get_take level i starts low a).1
            (get_take level j starts high b).1;
        begun = λ i start there.
            let both = get_take level i starts start there in
            let less = is.ascend i level start cut both.0 both.1 at in
            omega (arith, short, less, begins);
        assumed = λ place l there none.
            let both = get_take cut place lits l there in
            let start = is.assumed place l both.1 none in (
              start.0,
              get_taken level start.0 starts place (opened_below starts level cut start.0 place is.ascend at
                  start.1 both.0) start.1,
            );
        gone_within = omega (arith, short, begins);
        lits_fit = omega (arith, long, is.lits_fit, lits_grow);
        starts_fit = omega (arith, long, is.starts_fit, starts_grow);
      }

  -- another reason for a variable
  pub fits_rebased : (var reason : ℕ) → var < length values → reason < 4294967295
      → IsTrail values lits places (slice_set reasons var reason) starts gone lits_room starts_room
  fits_rebased var reason inside few =
      record {
        values_are = is.values_are;
        few = is.few;
        places_length = is.places_length;
        reasons_length = length-set reasons var reason ∙ is.reasons_length;
        places_are = is.places_are;
        within = is.within;
        once = is.once;
        ascend = is.ascend;
        begun = is.begun;
        assumed = λ place lit at none. go place lit at none (cases_eq (var_of lit) var);
        gone_within = is.gone_within;
        lits_fit = is.lits_fit;
        starts_fit = is.starts_fit;
      }
    where
      go : (place : ℕ) (lit : Lit) → slice_get lits place ≡ Some lit
          → slice_index_or (slice_set reasons var reason) (var_of lit) 4294967295 ≡ 4294967295
          → (var_of lit ≡ var) ⊎ (var_of lit ≡ var → ⊥) → (i : ℕ) × (slice_get starts i ≡ Some place)
      go place lit at none (inl e) =
          let read : slice_index_or (slice_set reasons var reason) (var_of lit) 4294967295 ≡ reason =
          ap (λ (v : ℕ). slice_index_or (slice_set reasons var reason) v 4294967295) e
          ∙ get_or-set_same reasons var reason 4294967295 (omega (arith, inside, is.reasons_length)) in
          absurd (omega (arith, read, none, few))
      go place lit at none (inr d) =
          is.assumed place lit at (sym (get_or-set_other reasons var (var_of lit) reason 4294967295 d) ∙ none)

  -- what a caller learns
  pub fits_entries : (scope : List ℕ) → AreEntries (record {
    vars = length values;
    entries = entries_of reasons lits;
    starts = starts;
    gone = gone;
    scope = scope;
  })
  fits_entries scope =
      record {
        few = is.few;
        within = all_within reasons (length values) lits is.within;
        once = entries_once reasons lits is.once;
        ascend = is.ascend;
        begun = λ i start at. let h = is.begun i start at in omega (arith, h, as_many reasons lits);
        assumed = λ place e at none.
            is.assumed place e.lit (lit_at reasons lits place e at)
            (no_reason (slice_index_or reasons (var_of e.lit) 4294967295) (sym (reason_of_entry reasons lits place e at) ∙ none));
        gone = omega (arith, is.gone_within, as_many reasons lits);
      }
