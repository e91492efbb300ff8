-- What is marked, place by place.
use Rattle.std.proofs.Common.{◌≡◌, ◌⊎◌, inl, inr, ◌∙◌, ◌<◌, ℕ, zero, suc, ◌+◌, ◌-◌, Bool, true, false, List, [], ◌∷◌, length, map, set, get_or, replicate, Some, slice_get, sym, refl, subst, arith, length-set, All, Contains, get_or-set_same, get_or-set_other}
use Rattle.std.proofs.lemmas.Bool.{cases_eq, cases_lt, both_ways}
use Rattle.std.proofs.lemmas.List.{get_or_past}
use Rattle.std.proofs.lemmas.Option.{slice_get-map, get_or_from_slice_get}
use Rattle.log_trim.specs.Marked.{is_marked, with_all, with_all_where, swept, gathered}

-- ---- what lists have at a place

pub at_is : {A B : Type 0} (f : A → List B) (xs : List A) (n : ℕ) (x : A) → slice_get xs n ≡ Some x
    → get_or (map f xs) n [] ≡ f x
at_is f xs n x there =
    let mapped : slice_get (map f xs) n ≡ Some (f x) = rw (slice_get-map f xs n, there) refl in
    get_or_from_slice_get (map f xs) n (f x) [] mapped

-- numbers that are in range of one list are in range of an equal one
pub in_range : {A : Type 0} (f : A → ℕ) (xs ys : List A) (n m : ℕ) → xs ≡ ys → n ≡ m → All (λ x. f x < m) xs
    → All (λ y. f y < n) ys
in_range {A} f xs ys n m same counts inside = subst (λ (zs : List A). All (λ z. f z < n) zs) same (rw counts inside)

-- ---- how many places there are

pub with_all_count : (marks : List Bool) (places : List ℕ) → length (with_all marks places) ≡ length marks
with_all_count marks [] = refl
with_all_count marks (place ∷ places) = with_all_count (set marks place true) places ∙ length-set marks place true

pub with_all_where_count : (told : Bool) (marks : List Bool) (places : List ℕ)
    → length (with_all_where told marks places) ≡ length marks
with_all_where_count true marks places = with_all_count marks places
with_all_where_count false marks places = refl

-- ---- going on by one place

pub gathered_more : (from : List Bool) (lists : ℕ → List ℕ) (n : ℕ) (marks : List Bool)
    → gathered from lists (n + 1) marks ≡ with_all_where (is_marked from n) (gathered from lists n marks) (lists n)
gathered_more from lists n marks = let next : n + 1 ≡ suc n = omega arith in rw next refl

pub gathered_step : (from : List Bool) (lists : ℕ → List ℕ) (n : ℕ) (marks now next : List Bool) (told : Bool) (places : List ℕ)
    → told ≡ is_marked from n → places ≡ lists n → now ≡ gathered from lists n marks → next ≡ with_all_where told now places
    → next ≡ gathered from lists (n + 1) marks
gathered_step from lists n marks now next told places told_is places_are so_far more =
    more ∙ rw (told_is, places_are, so_far) (sym (gathered_more from lists n marks))

pub swept_step : (lists : ℕ → List ℕ) (n : ℕ) (now next : List Bool) → 0 < n
    → next ≡ with_all_where (is_marked now (n - 1)) now (lists (n - 1)) → swept lists (n - 1) next ≡ swept lists n now
swept_step lists zero now next below more = absurd (omega arith)
swept_step lists (suc n) now next below more =
    let before : suc n - 1 ≡ n = omega arith in
    let same = rw before at more in
    rw (before, same) refl

-- ---- places that are marked

pub marked_within : (marks : List Bool) (p : ℕ) → is_marked marks p ≡ true → p < length marks
marked_within marks p marked =
    elim (cases_lt p (length marks)) [
      | inl below ↦ below
      | inr past ↦ absurd (both_ways _ (get_or_past marks p false past) marked)
    ]

marked_set : (marks : List Bool) (place p : ℕ) → is_marked marks p ≡ true → is_marked (set marks place true) p ≡ true
marked_set marks place p marked =
    elim (cases_eq p place) [
      | inl e ↦
          let far : p < length marks = marked_within marks p marked in
          let within : place < length marks = rw e at far in
          rw e (get_or-set_same marks place true false within)
      | inr ne ↦ get_or-set_other marks place p true false ne ∙ marked
    ]

set_cases : (marks : List Bool) (place p : ℕ) → is_marked (set marks place true) p ≡ true
    → (is_marked marks p ≡ true) ⊎ (place ≡ p)
set_cases marks place p marked =
    elim (cases_eq p place) [
      | inl e ↦ inr (sym e)
      | inr ne ↦ inl (sym (get_or-set_other marks place p true false ne) ∙ marked)
    ]

pub marked_kept : (marks : List Bool) (places : List ℕ) (p : ℕ) → is_marked marks p ≡ true
    → is_marked (with_all marks places) p ≡ true
marked_kept marks [] p marked = marked
marked_kept marks (place ∷ places) p marked = marked_kept (set marks place true) places p (marked_set marks place p marked)

pub contains_cases : {X : Type 0} (x : X) (xs : List X) (y : X) → Contains (x ∷ xs) y → (x ≡ y) ⊎ Contains xs y
contains_cases x xs y (zero, within, same) = inl same
contains_cases x xs y (suc k, within, same) = inr (k, omega arith, same)

pub contains_first : {X : Type 0} (x : X) (xs : List X) → Contains (x ∷ xs) x
contains_first x xs = (0, omega arith, refl)

pub contains_later : {X : Type 0} (x : X) (xs : List X) (y : X) → Contains xs y → Contains (x ∷ xs) y
contains_later x xs y (k, within, same) = (suc k, omega arith, same)

pub contains_none : {X : Type 0} (y : X) → Contains [] y → ⊥
contains_none y (k, within, same) = omega arith

pub marked_new : (marks : List Bool) (places : List ℕ) (p : ℕ) → p < length marks → Contains places p
    → is_marked (with_all marks places) p ≡ true
marked_new marks [] p within is_in = absurd (contains_none p is_in)
marked_new marks (place ∷ places) p within is_in =
    elim (contains_cases place places p is_in) [
      | inl e ↦
          let here : is_marked (set marks place true) p ≡ true = rw e (get_or-set_same marks p true false within) in
          marked_kept (set marks place true) places p here
      | inr later ↦ marked_new (set marks place true) places p (rw (length-set marks place true) within) later
    ]

pub marked_cases : (marks : List Bool) (places : List ℕ) (p : ℕ) → is_marked (with_all marks places) p ≡ true
    → (is_marked marks p ≡ true) ⊎ Contains places p
marked_cases marks [] p marked = inl marked
marked_cases marks (place ∷ places) p marked =
    elim (marked_cases (set marks place true) places p marked) [
      | inl before ↦
          elim (set_cases marks place p before) [
            | inl old ↦ inl old
            | inr e ↦ inr (0, omega arith, e)
          ]
      | inr later ↦ inr (contains_later place places p later)
    ]

-- ---- the same, where so told

pub where_kept : (told : Bool) (marks : List Bool) (places : List ℕ) (p : ℕ) → is_marked marks p ≡ true
    → is_marked (with_all_where told marks places) p ≡ true
where_kept true marks places p marked = marked_kept marks places p marked
where_kept false marks places p marked = marked

pub where_new : (told : Bool) (marks : List Bool) (places : List ℕ) (p : ℕ) → told ≡ true → p < length marks → Contains places p
    → is_marked (with_all_where told marks places) p ≡ true
where_new true marks places p told within is_in = marked_new marks places p within is_in
where_new false marks places p told within is_in = absurd (both_ways false refl told)

pub where_cases : (told : Bool) (marks : List Bool) (places : List ℕ) (p : ℕ)
    → is_marked (with_all_where told marks places) p ≡ true
    → (is_marked marks p ≡ true) ⊎ ((told ≡ true) × Contains places p)
where_cases true marks places p marked =
    elim (marked_cases marks places p marked) [ inl old ↦ inl old | inr is_in ↦ inr (refl, is_in) ]
where_cases false marks places p marked = inl marked

pub none_marked : (n p : ℕ) → is_marked (replicate n false) p ≡ true → ⊥
none_marked zero p marked = both_ways false refl marked
none_marked (suc n) zero marked = both_ways false refl marked
none_marked (suc n) (suc p) marked = none_marked n p marked
