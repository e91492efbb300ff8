-- What is left of tuples in order, without those that are not above the one that is kept before them.
use Rattle.std.proofs.Common.{◌≡◌, ◌∙◌, ◌⊎◌, ◌-◌, ◌<◌, ◌≤◌, ◌++◌, ℕ, zero, suc, Bool, true, false, cond, List, [], ◌∷◌, Contains, Option, Some, None}
use Rattle.std.proofs.Common.{ap, append_assoc, arith, get_or, inl, inr, length, refl, slice_get, subst, sym}
use Rattle.std.specs.Cmp.{IsTotalOrder}
use Rattle.std.specs.Cmp.Lexicographic.{slice_cmp}
use Rattle.std.specs.List.Sorted.{IsPermutation, IsSortedBy}
use Rattle.std.specs.Ordering.{is_lt, ordering_reverse}
use Rattle.std.specs.declared.cmp.Ordering.{Ordering}
use Rattle.std.specs.declared.cmp.Ordering.TheVariants.{Less, Equal, Greater}
use Rattle.std.proofs.lemmas.Bool.{false≢true}
use Rattle.std.proofs.lemmas.List.{length_push}
use Rattle.std.proofs.lemmas.List.Sorted.{Contains-permutation, IsPermutation-sym, ranks_by, sorted_far}
use Rattle.std.proofs.lemmas.Option.{get_or_from_slice_get, none-some, same_Some, slice_get_within}
use Rattle.axiom_laws.proofs.Standing.{at_contains, contains_at}
use Rattle.currency_base.specs.Values.{value_cmp}
use Rattle.currency_base.specs.declared.value.Value.{Value}
use Rattle.query_model.specs.Answers.{AreAscending, IsBelow}
use Rattle.possible_answers.specs.Distinct.{AreDistinct, distinct_after, is_below, is_past}

abbrev Tuple : Type 0
Tuple = List Value

-- a tuple stands in a list
abbrev Has : List Tuple → Tuple → Type 0
Has xs x = (k : ℕ) × (slice_get xs k ≡ Some x)

has_first : (x y : Tuple) (xs : List Tuple) → x ≡ y → Has (x ∷ xs) y
has_first x y xs same = (0, ap Some same)

has_later : (x y : Tuple) (xs : List Tuple) → Has xs y → Has (x ∷ xs) y
has_later x y xs h = (suc h.0, h.1)

has_parts : (x y : Tuple) (xs : List Tuple) → Has (x ∷ xs) y → (x ≡ y) ⊎ Has xs y
has_parts x y xs (zero, at) = inl (same_Some x y at)
has_parts x y xs (suc k, at) = inr (k, at)

-- none of these is below a tuple
abbrev AreFrom : Tuple → List Tuple → Type 0
AreFrom x xs = (y : Tuple) → Has xs y → is_below y x ≡ false

-- none is below one before it
abbrev Rises : List Tuple → Type 0
Rises [] = Unit {0}
Rises (x ∷ xs) = AreFrom x xs × Rises xs

rises_from : (xs : List Tuple)
    → ((i j : ℕ) (d : Tuple) → i ≤ j → j < length xs → is_below (get_or xs j d) (get_or xs i d) ≡ false) → Rises xs
rises_from [] far = tt
rises_from (x ∷ xs) far = (
  λ y h.
      let inside = slice_get_within xs h.0 y h.1 in
      let read : get_or xs h.0 y ≡ y = get_or_from_slice_get xs h.0 y y h.1 in
      subst (λ (z : Tuple). is_below z x ≡ false) read (far 0 (suc h.0) y (omega arith) (omega (arith, inside))),
  rises_from xs (λ i j d up inside. far (suc i) (suc j) d (omega (arith, up)) (omega (arith, inside))),
)

-- none is below the last tuple that is kept
abbrev AreFromLast : Option Tuple → List Tuple → Type 0
AreFromLast None xs = Unit {0}
AreFromLast (Some last) xs = AreFrom last xs

from_tail : (last : Option Tuple) (x : Tuple) (xs : List Tuple) → AreFromLast last (x ∷ xs) → AreFromLast last xs
from_tail None x xs h = tt
from_tail (Some last) x xs h = λ y there. h y (has_later x y xs there)

-- ---- what a pass over them keeps

last_at : (xs : List Tuple) (x : Tuple) → slice_get (xs ++ x ∷ []) (length xs) ≡ Some x
last_at [] x = refl
last_at (y ∷ xs) x = last_at xs x

last_pushed : (xs : List Tuple) (x : Tuple) → slice_get (xs ++ x ∷ []) (length (xs ++ x ∷ []) - 1) ≡ Some x
last_pushed xs x =
    let long = length_push xs x in
    let place : length (xs ++ x ∷ []) - 1 ≡ length xs = omega (arith, long) in
    ap (slice_get (xs ++ x ∷ [])) place ∙ last_at xs x

-- a tuple is kept, and what is left comes after it
pub one_kept : (list new : List Tuple) (x : Tuple) (rest : List Tuple)
    → is_past (slice_get list (length list - 1)) x ≡ true → new ≡ list ++ x ∷ []
    → new ++ distinct_after (slice_get new (length new - 1)) rest
    ≡ list ++ distinct_after (slice_get list (length list - 1)) (x ∷ rest)
one_kept list new x rest past pushed =
    let last : slice_get new (length new - 1) ≡ Some x =
    ap (λ (xs : List Tuple). slice_get xs (length xs - 1)) pushed ∙ last_pushed list x in
    ap (λ (o : Option Tuple). new ++ distinct_after o rest) last
    ∙ ap (λ (xs : List Tuple). xs ++ distinct_after (Some x) rest) pushed
    ∙ append_assoc list (x ∷ []) (distinct_after (Some x) rest)
    ∙ ap (λ (b : Bool). list ++ cond b (x ∷ distinct_after (Some x) rest)
    (distinct_after (slice_get list (length list - 1)) rest)) (sym past)

-- ---- each is one of them

kept_each : (last : Option Tuple) (xs : List Tuple) (y : Tuple) → Has (distinct_after last xs) y → Has xs y
kept_each last [] y h = h
kept_each last (x ∷ xs) y h = by (is_past last x) h (kept_each (Some x) xs y) (kept_each last xs y)
  where
    kept : (x ≡ y) ⊎ Has (distinct_after (Some x) xs) y → (Has (distinct_after (Some x) xs) y → Has xs y) → Has (x ∷ xs) y
    kept (inl same) later = has_first x y xs same
    kept (inr there) later = has_later x y xs (later there)

    by : (b : Bool) → Has (cond b (x ∷ distinct_after (Some x) xs) (distinct_after last xs)) y
        → (Has (distinct_after (Some x) xs) y → Has xs y) → (Has (distinct_after last xs) y → Has xs y) → Has (x ∷ xs) y
    by true there taken left = kept (has_parts x y (distinct_after (Some x) xs) there) taken
    by false there taken left = has_later x y xs (left there)

module _ (total : IsTotalOrder (slice_cmp value_cmp)) (equal : (a b : Tuple) → slice_cmp value_cmp a b ≡ Equal → a ≡ b) where
  -- ---- the order

  below_is : (a b : Tuple) → is_below a b ≡ true → IsBelow a b
  below_is a b is = by (slice_cmp value_cmp a b) refl is
    where
      by : (o : Ordering) → slice_cmp value_cmp a b ≡ o → is_lt o ≡ true → slice_cmp value_cmp a b ≡ Less
      by Less e h = e
      by Equal e h = absurd (false≢true h)
      by Greater e h = absurd (false≢true h)

  is_below_of : (a b : Tuple) → IsBelow a b → is_below a b ≡ true
  is_below_of a b is = ap is_lt is

  below_trans : (a b c : Tuple) → is_below a b ≡ true → is_below b c ≡ true → is_below a c ≡ true
  below_trans a b c first second = is_below_of a c (total.trans a b c (below_is a b first) (below_is b c second))

  -- neither is below the other
  same_place : (a b : Tuple) → is_below a b ≡ false → is_below b a ≡ false → a ≡ b
  same_place a b one other = by (slice_cmp value_cmp a b) refl one
    where
      turned : slice_cmp value_cmp a b ≡ Greater → is_below b a ≡ true
      turned is = ap is_lt (total.antisymm b a ∙ ap ordering_reverse is)

      by : (o : Ordering) → slice_cmp value_cmp a b ≡ o → is_lt o ≡ false → a ≡ b
      by Less e h = absurd (false≢true (sym h))
      by Equal e h = equal a b e
      by Greater e h = absurd (false≢true (sym other ∙ turned e))

  -- ---- each of them is kept, or stands before

  -- a tuple that is not kept is the last one
  not_past : (last : Option Tuple) (x : Tuple) (xs : List Tuple) → AreFromLast last (x ∷ xs) → is_past last x ≡ false
      → last ≡ Some x
  not_past None x xs from is = absurd (false≢true (sym is))
  not_past (Some last) x xs from is = ap Some (same_place last x is (from x (has_first x x xs refl)))

  kept_all : (last : Option Tuple) (xs : List Tuple) → Rises xs → AreFromLast last xs → (y : Tuple) → Has xs y
      → (last ≡ Some y) ⊎ Has (distinct_after last xs) y
  kept_all last [] rises from y h = inr h
  kept_all last (x ∷ xs) rises from y h =
      by (is_past last x) refl (has_parts x y xs h) (kept_all (Some x) xs rises.1 rises.0 y)
      (kept_all last xs rises.1 (from_tail last x xs from) y)
    where
      taken : (Some x ≡ Some y) ⊎ Has (distinct_after (Some x) xs) y → Has (x ∷ distinct_after (Some x) xs) y
      taken (inl same) = has_first x y (distinct_after (Some x) xs) (same_Some x y same)
      taken (inr there) = has_later x y (distinct_after (Some x) xs) there

      by : (b : Bool) → is_past last x ≡ b → (x ≡ y) ⊎ Has xs y
          → (Has xs y → (Some x ≡ Some y) ⊎ Has (distinct_after (Some x) xs) y)
          → (Has xs y → (last ≡ Some y) ⊎ Has (distinct_after last xs) y)
          → (last ≡ Some y) ⊎ Has (cond b (x ∷ distinct_after (Some x) xs) (distinct_after last xs)) y
      by true is (inl same) later other = inr (has_first x y (distinct_after (Some x) xs) same)
      by true is (inr there) later other = inr (taken (later there))
      by false is (inl same) later other = inl (not_past last x xs from is ∙ ap Some same)
      by false is (inr there) later other = other there

  -- ---- what is kept ascends

  kept_past : (last : Option Tuple) (xs : List Tuple) (y : Tuple) → Has (distinct_after last xs) y → is_past last y ≡ true
  kept_past last [] y h = absurd (none-some y h.1)
  kept_past last (x ∷ xs) y h = by (is_past last x) refl h (kept_past (Some x) xs y) (kept_past last xs y)
    where
      over : (o : Option Tuple) → is_past o x ≡ true → is_below x y ≡ true → is_past o y ≡ true
      over None first second = refl
      over (Some l) first second = below_trans l x y first second

      taken : is_past last x ≡ true → (x ≡ y) ⊎ Has (distinct_after (Some x) xs) y
          → (Has (distinct_after (Some x) xs) y → is_below x y ≡ true) → is_past last y ≡ true
      taken is (inl same) later = subst (λ (z : Tuple). is_past last z ≡ true) same is
      taken is (inr there) later = over last is (later there)

      by : (b : Bool) → is_past last x ≡ b → Has (cond b (x ∷ distinct_after (Some x) xs) (distinct_after last xs)) y
          → (Has (distinct_after (Some x) xs) y → is_below x y ≡ true)
          → (Has (distinct_after last xs) y → is_past last y ≡ true) → is_past last y ≡ true
      by true is there later other = taken is (has_parts x y (distinct_after (Some x) xs) there) later
      by false is there later other = other there

  first_ascends : (x : Tuple) (xs : List Tuple) → ((y : Tuple) → Has xs y → is_below x y ≡ true) → AreAscending xs
      → AreAscending (x ∷ xs)
  first_ascends x xs past up zero zero a b order at_a at_b = absurd (omega (arith, order))
  first_ascends x xs past up zero (suc j) a b order at_a at_b =
      subst (λ (z : Tuple). IsBelow z b) (same_Some x a at_a) (below_is x b (past b (j, at_b)))
  first_ascends x xs past up (suc i) zero a b order at_a at_b = absurd (omega (arith, order))
  first_ascends x xs past up (suc i) (suc j) a b order at_a at_b = up i j a b (omega (arith, order)) at_a at_b

  kept_ascends : (last : Option Tuple) (xs : List Tuple) → AreAscending (distinct_after last xs)
  kept_ascends last [] = λ i j a b order at_a at_b. absurd (none-some a at_a)
  kept_ascends last (x ∷ xs) = by (is_past last x) (kept_ascends (Some x) xs) (kept_ascends last xs)
    where
      by : (b : Bool) → AreAscending (distinct_after (Some x) xs) → AreAscending (distinct_after last xs)
          → AreAscending (cond b (x ∷ distinct_after (Some x) xs) (distinct_after last xs))
      by true taken left = first_ascends x (distinct_after (Some x) xs) (λ y h. kept_past (Some x) xs y h) taken
      by false taken left = left

  -- ---- together

  pub distinct_are : (tuples ascending list : List Tuple) → IsPermutation tuples ascending → IsSortedBy is_below ascending
      → list ≡ distinct_after None ascending → AreDistinct tuples list
  distinct_are tuples ascending list moved sorted is =
      subst (AreDistinct tuples) (sym is) (record {
        each = λ y h.
            let at = at_contains (distinct_after None ascending) y h in
            let there = kept_each None ascending y at in
            Contains-permutation ascending tuples y (IsPermutation-sym tuples ascending moved)
            (contains_at ascending there.0 y there.1);
        all = λ y h.
            let at = at_contains ascending y (Contains-permutation tuples ascending y moved h) in
            left y (kept_all None ascending rises tt y at);
        ascending = kept_ascends None ascending;
      })
    where
      rises : Rises ascending
      rises = rises_from ascending (sorted_far is_below (ranks_by total (λ (x : Tuple). x)) ascending sorted)

      left : (y : Tuple) → (None ≡ Some y) ⊎ Has (distinct_after None ascending) y → Contains (distinct_after None ascending) y
      left y (inl none) = absurd (none-some y none)
      left y (inr there) = contains_at (distinct_after None ascending) there.0 y there.1
