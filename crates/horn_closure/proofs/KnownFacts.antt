-- The places of cells that were derived.
use Rattle.std.proofs.Common.{◌≡◌, ◌⊎◌, ◌+◌, ◌<◌, ◌≤◌, ◌∙◌, ℕ, zero, suc, true, false, eqb, List, [], ◌∷◌, ◌++◌, Some, length, map, replicate, get_or, slice_get, slice_set, sym, ap, refl, subst, inl, inr, arith, length-append}
use Rattle.std.specs.List.{list_any, IsDistinct, AllByRecursion}
use Rattle.std.proofs.lemmas.Bool.{cases_eq, ne_eqb, eqb-true, or_cases}
use Rattle.std.proofs.lemmas.List.{length-map, length-set, get_or-set_other, get_or-set_same}
use Rattle.std.proofs.lemmas.Option.{none-some, same_Some, slice_get_read, slice_get_within, slice_get-get_or, get_or_from_slice_get}
use Rattle.std.proofs.lemmas.Map.Steps.{length-le_from_distinct_below}
use Rattle.horn_closure.specs.Least.{IsAmong}
use Rattle.horn_closure.specs.Steps.{StandsAt, AreKnown, AreOnce}
use Rattle.horn_closure.specs.declared.derived.Derived.{Derived}
use Rattle.horn_closure.specs.declared.derived.Why.{Why}
use Rattle.horn_closure.specs.declared.derived.Why.TheVariants.{Fact}
use Rattle.horn_closure.proofs.Derivations.{get_front, get_last, get_push, stands_among}

-- ---- lists of numbers

pub get_set_same : (xs : List ℕ) (i v : ℕ) → i < length xs → slice_get (slice_set xs i v) i ≡ Some v
get_set_same xs i v less =
    slice_get-get_or (slice_set xs i v) i 0 (omega (arith, length-set xs i v)) ∙ ap Some (get_or-set_same xs i v 0 less)

pub get_set_other : (xs : List ℕ) (i j v x : ℕ) → (i ≡ j → ⊥) → slice_get xs j ≡ Some x → slice_get (slice_set xs i v) j ≡ Some x
get_set_other xs i j v x other at =
    slice_get-get_or (slice_set xs i v) j 0 (omega (arith, length-set xs i v, slice_get_within xs j x at))
    ∙ ap Some (get_or-set_other xs i j v 0 (λ e. other (sym e)) ∙ get_or_from_slice_get xs j x 0 at)

-- what stands in a list after a write was there before, or was written
pub get_set : (xs : List ℕ) (i j v x : ℕ) → slice_get (slice_set xs i v) j ≡ Some x
    → ((i ≡ j) × (v ≡ x)) ⊎ ((i ≡ j → ⊥) × (slice_get xs j ≡ Some x))
get_set xs i j v x at = go (cases_eq i j)
  where
    within : j < length xs
    within = omega (arith, length-set xs i v, slice_get_within (slice_set xs i v) j x at)

    go : (i ≡ j) ⊎ (i ≡ j → ⊥) → ((i ≡ j) × (v ≡ x)) ⊎ ((i ≡ j → ⊥) × (slice_get xs j ≡ Some x))
    go (inl e) = inl (
      e,
      same_Some v x (sym (get_set_same xs i v (omega (arith, within)))
          ∙ ap (slice_get (slice_set xs i v)) e ∙ at),
    )
    go (inr d) =
        let before = slice_get-get_or xs j 0 within in
        inr (d, before ∙ sym (get_set_other xs i j v (get_or xs j 0) d before) ∙ at)

get_replicate : (n i x y : ℕ) → slice_get (replicate n x) i ≡ Some y → x ≡ y
get_replicate zero i x y at = absurd (none-some y at)
get_replicate (suc n) zero x y at = same_Some x y at
get_replicate (suc n) (suc i) x y at = get_replicate n i x y at

pub all_zero : (n i y : ℕ) → slice_get (replicate n 0) i ≡ Some y → y ≡ 0
all_zero n i y at = sym (get_replicate n i 0 y at)

-- ---- each cell once

abbrev slots_of : List Derived → List ℕ
slots_of ds = map (λ (d : Derived). d.slot) ds

once_rest : (c : Derived) (ds : List Derived) → AreOnce (c ∷ ds) → AreOnce ds
once_rest c ds once i j a b at_i at_j same =
    let next : suc i ≡ suc j = once (suc i) (suc j) a b at_i at_j same in
    omega arith

not_among : (slot : ℕ) (ds : List Derived) → ((i : ℕ) (d : Derived) → slice_get ds i ≡ Some d → slot ≡ d.slot → ⊥)
    → AllByRecursion (λ y. eqb slot y ≡ false) (slots_of ds)
not_among slot [] none = tt
not_among slot (d ∷ ds) none = (ne_eqb slot d.slot (none 0 d refl), not_among slot ds (λ i e at. none (suc i) e at))

distinct : (ds : List Derived) → AreOnce ds → IsDistinct eqb (slots_of ds)
unfolding IsDistinct
distinct [] once = tt
distinct (c ∷ ds) once = (
  not_among c.slot ds (λ i d at same. let e : 0 ≡ suc i = once 0 (suc i) c d refl at same in absurd
      (omega arith)),
  distinct ds (once_rest c ds once),
)

below : (n q : ℕ) (ds : List Derived) → ((i : ℕ) (d : Derived) → slice_get ds i ≡ Some d → d.slot < n)
    → list_any (eqb q) (slots_of ds) ≡ true → q < n
below n q [] all is = absurd (cc)
below n q (d ∷ ds) all is = go (λ h. below n q ds (λ i e at. all (suc i) e at) h)
    (or_cases (eqb q d.slot) (list_any (eqb q) (slots_of ds)) is)
  where
    go : (list_any (eqb q) (slots_of ds) ≡ true → q < n) → (eqb q d.slot ≡ true) ⊎ (list_any (eqb q) (slots_of ds) ≡ true) → q < n
    go more (inl h) = subst (λ v. v < n) (sym (eqb-true q d.slot h)) (all 0 d refl)
    go more (inr h) = more h

-- ---- the places

module _ (places : List ℕ) (derived : List Derived) (is : AreKnown places derived) where
  pub known_once : AreOnce derived
  known_once i j c d at_i at_j same =
      let one = is.stands i c at_i in
      let other = is.stands j d at_j in
      let both : Some (i + 1) ≡ Some (j + 1) = sym one ∙ ap (slice_get places) same ∙ other in
      let next = same_Some (i + 1) (j + 1) both in
      omega arith

  pub known_within : (i : ℕ) (d : Derived) → slice_get derived i ≡ Some d → d.slot < length places
  known_within i d at = slice_get_within places d.slot (i + 1) (is.stands i d at)

  -- as many were derived as there are cells, at most
  pub known_few : length derived ≤ length places
  known_few =
      let few = length-le_from_distinct_below (slots_of derived) (length places) (distinct derived known_once)
      (λ q any. below (length places) q derived known_within any) in
      omega (arith, few, length-map derived (λ (d : Derived). d.slot))

  -- where a cell that was not derived is derived last
  pub known_more : (slot : ℕ) (why : Why) → slice_get places slot ≡ Some 0
      → AreKnown (slice_set places slot (length derived + 1)) (derived ++ record { slot = slot; why = why } ∷ [])
  known_more slot why none = record {
    few = omega (arith, length-set places slot (length derived + 1), is.few);
    stands = stands;
    found = found;
  }
    where
      new : Derived
      new = record { slot = slot; why = why }

      next : ℕ
      next = length derived + 1

      within : slot < length places
      within = slice_get_within places slot 0 none

      stands : (place : ℕ) (d : Derived) → slice_get (derived ++ record { slot = slot; why = why } ∷ []) place ≡ Some d
          → slice_get (slice_set places slot (length derived + 1)) d.slot ≡ Some (place + 1)
      stands place d at = go (get_push derived new place d at)
        where
          go : (slice_get derived place ≡ Some d) ⊎ ((place ≡ length derived) × (new ≡ d))
              → slice_get (slice_set places slot next) d.slot ≡ Some (place + 1)
          go (inl there) =
              let was = is.stands place d there in
              get_set_other places slot d.slot next (place + 1)
              (λ same. let both = same_Some 0 (place + 1) (sym none ∙ ap (slice_get places) same ∙ was) in omega arith) was
          go (inr here) =
              ap (slice_get (slice_set places slot next)) (sym (ap (λ (x : Derived). x.slot) here.1))
              ∙ get_set_same places slot next within ∙ ap (λ n. Some (n + 1)) (sym here.0)

      found : (s place : ℕ) → slice_get (slice_set places slot (length derived + 1)) s ≡ Some (place + 1)
          → StandsAt (derived ++ record { slot = slot; why = why } ∷ []) place s
      found s place at = go (get_set places slot s next (place + 1) at)
        where
          go : ((slot ≡ s) × (next ≡ place + 1)) ⊎ ((slot ≡ s → ⊥) × (slice_get places s ≡ Some (place + 1)))
              → StandsAt (derived ++ new ∷ []) place s
          go (inl here) =
              let last : place ≡ length derived = omega (arith, here.1) in
              record { one = new; is_one = ap (slice_get (derived ++ new ∷ [])) last ∙ get_last derived new; slot_is = here.0 }
          go (inr there) =
              let was = is.found s place there.1 in
              record { one = was.one; is_one = get_front derived (new ∷ []) place was.one was.is_one; slot_is = was.slot_is }

-- there is room for one more place
pub known_room : (places : List ℕ) (derived : List Derived) (slot : ℕ) → AreKnown places derived → slice_get places slot ≡ Some 0
    → length derived + 1 ≤ length places
known_room places derived slot is none =
    let why : Why = Fact in
    let new : Derived = record { slot = slot; why = why } in
    let few = known_few (slice_set places slot (length derived + 1)) (derived ++ new ∷ [])
    (known_more places derived is slot why none) in
    omega (arith, few, length-set places slot (length derived + 1), length-append derived (new ∷ []))

-- ---- what is read

module _ (places : List ℕ) (slot n : ℕ) (within : slot < length places) (read : n ≡ get_or places slot n) where
  pub read_there : slice_get places slot ≡ Some n
  read_there = slice_get_read places (length places) slot n refl within read

  pub known_there : (derived : List Derived) → AreKnown places derived → (n ≡ 0 → ⊥) → IsAmong derived slot
  known_there derived is some = go n refl
    where
      go : (m : ℕ) → n ≡ m → IsAmong derived slot
      go zero e = absurd (some e)
      go (suc m) e = stands_among derived m slot (is.found slot m (read_there ∙ ap Some (e ∙ add_one m)))
        where
          add_one : (m : ℕ) → suc m ≡ m + 1
          add_one m = omega arith
