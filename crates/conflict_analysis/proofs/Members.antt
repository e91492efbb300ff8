-- Members of lists, and lists in which each stands once.
use Rattle.std.proofs.Common.{◌≡◌, ◌⊎◌, ◌∙◌, ℕ, zero, suc, List, [], ◌∷◌, ◌++◌, Contains, Some, length, slice_get, refl, sym, ap, subst, inl, inr, arith}
use Rattle.std.proofs.lemmas.List.Elements.{Contains-push_cases, Contains-append_cases}
use Rattle.std.proofs.lemmas.Option.{slice_get-get_or, slice_get_within, get_or_from_slice_get}
use Rattle.currency_base.specs.Lists.{OnlyOnce}

pub contains_at : {A : Type 0} (xs : List A) (i : ℕ) (x : A) → slice_get xs i ≡ Some x → Contains xs x
contains_at xs i x at = (i, slice_get_within xs i x at, get_or_from_slice_get xs i x x at)

pub place_in : {A : Type 0} (xs : List A) (x : A) → Contains xs x → (i : ℕ) × (slice_get xs i ≡ Some x)
place_in xs x there = (there.0, slice_get-get_or xs there.0 x there.1 ∙ ap (λ y. Some y) there.2)

pub in_none : {A : Type 0} (x : A) → Contains [] x → ⊥
in_none x there = omega (arith, there.1)

-- what is first in a list or comes after
pub cons_cases : {A : Type 0} (x : A) (xs : List A) (y : A) → Contains (x ∷ xs) y → (x ≡ y) ⊎ Contains xs y
cons_cases {A} x xs y there = by (Contains-append_cases (x ∷ []) xs y there)
  where
    by : Contains (x ∷ []) y ⊎ Contains xs y → (x ≡ y) ⊎ Contains xs y
    by (inr later) = inr later
    by (inl here) = inl_of (Contains-push_cases [] x y here)
      where
        inl_of : Contains [] y ⊎ (x ≡ y) → (x ≡ y) ⊎ Contains xs y
        inl_of (inr is) = inl is
        inl_of (inl none) = absurd (omega (arith, none.1))

-- an item of a list with one more is one of the list, or is the last
pub snoc_at : {A : Type 0} (xs : List A) (x : A) (i : ℕ) (y : A) → slice_get (xs ++ x ∷ []) i ≡ Some y
    → (slice_get xs i ≡ Some y) ⊎ ((i ≡ length xs) × (x ≡ y))
snoc_at [] x zero y at = inr (refl, cc)
snoc_at [] x (suc i) y at = inl at
snoc_at (z ∷ zs) x zero y at = inl at
snoc_at (z ∷ zs) x (suc i) y at = elim (snoc_at zs x i y at) [ inl here ↦ inl here | inr last ↦ inr (ap suc last.0, last.1) ]

-- a list with one new item more has each item once
pub once_more : {A : Type 0} (xs : List A) (x : A) → OnlyOnce xs → (Contains xs x → ⊥) → OnlyOnce (xs ++ x ∷ [])
once_more {A} xs x once new i j y at_i at_j = cases (snoc_at xs x i y at_i) (snoc_at xs x j y at_j)
  where
    cases : (slice_get xs i ≡ Some y) ⊎ ((i ≡ length xs) × (x ≡ y)) → (slice_get xs j ≡ Some y) ⊎
        ((j ≡ length xs) × (x ≡ y)) → i ≡ j
    cases (inl a) (inl b) = once i j y a b
    cases (inl a) (inr b) = absurd (new (subst (λ (z : A). Contains xs z) (sym b.1) (contains_at xs i y a)))
    cases (inr a) (inl b) = absurd (new (subst (λ (z : A). Contains xs z) (sym a.1) (contains_at xs j y b)))
    cases (inr a) (inr b) = a.0 ∙ sym b.0

-- without its last item too
pub get_front : {A : Type 0} (xs ys : List A) (i : ℕ) (y : A) → slice_get xs i ≡ Some y → slice_get (xs ++ ys) i ≡ Some y
get_front [] ys i y at = absurd (cc)
get_front (x ∷ xs) ys zero y at = at
get_front (x ∷ xs) ys (suc i) y at = get_front xs ys i y at

get_last : {A : Type 0} (xs : List A) (x : A) → slice_get (xs ++ x ∷ []) (length xs) ≡ Some x
get_last [] x = refl
get_last (y ∷ ys) x = get_last ys x

pub once_front : {A : Type 0} (xs : List A) (x : A) → OnlyOnce (xs ++ x ∷ []) → OnlyOnce xs
once_front xs x once i j y at_i at_j = once i j y (get_front xs (x ∷ []) i y at_i) (get_front xs (x ∷ []) j y at_j)

-- which stands nowhere else
pub last_apart : {A : Type 0} (xs : List A) (x : A) → OnlyOnce (xs ++ x ∷ []) → Contains xs x → ⊥
last_apart xs x once there =
    let at = place_in xs x there in
    let same : at.0 ≡ length xs = once at.0 (length xs) x (get_front xs (x ∷ []) at.0 x at.1) (get_last xs x) in
    let within = slice_get_within xs at.0 x at.1 in
    omega (arith, same, within)
