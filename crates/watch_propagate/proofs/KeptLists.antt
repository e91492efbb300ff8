-- Fronts of lists and lists with more behind, and what stands there.
use Rattle.std.proofs.Common.{◌≡◌, ◌⊎◌, ◌<◌, ◌∙◌, ℕ, zero, suc, List, [], ◌∷◌, ◌++◌, Some, Contains, length, take, drop, slice_get, refl, sym, ap, subst, inl, inr, arith}
use Rattle.std.proofs.lemmas.List.{take-append-drop}
use Rattle.std.proofs.lemmas.List.Elements.{Contains-append_left}
use Rattle.std.proofs.lemmas.Option.{same_Some, slice_get_within, slice_get-get_or, get_or_from_slice_get}

-- one item stands at a place
pub same_get : {A : Type 0} (xs : List A) (i : ℕ) (x y : A) → slice_get xs i ≡ Some x → slice_get xs i ≡ Some y → x ≡ y
same_get xs i x y one other = same_Some x y (sym one ∙ other)

-- what stands at a place stands there with more behind
pub get_left : {A : Type 0} (xs ys : List A) (i : ℕ) (x : A) → slice_get xs i ≡ Some x → slice_get (xs ++ ys) i ≡ Some x
get_left [] ys i x is = let no : ⊥ = cc in absurd no
get_left (z ∷ xs) ys zero x is = is
get_left (z ∷ xs) ys (suc i) x is = get_left xs ys i x is

pub get_end : {A : Type 0} (xs : List A) (y : A) → slice_get (xs ++ y ∷ []) (length xs) ≡ Some y
get_end [] y = refl
get_end (z ∷ xs) y = get_end xs y

-- and what stands within the list with more behind stands in the list
pub get_front : {A : Type 0} (xs ys : List A) (i : ℕ) (x : A) → i < length xs → slice_get (xs ++ ys) i ≡ Some x
    → slice_get xs i ≡ Some x
get_front [] ys i x h is = absurd (omega (arith, h))
get_front (z ∷ xs) ys zero x h is = is
get_front (z ∷ xs) ys (suc i) x h is = get_front xs ys i x (omega (arith, h)) is

-- with one item more, an item stood there before, or is that one
pub get_push : {A : Type 0} (xs : List A) (y : A) (i : ℕ) (x : A) → slice_get (xs ++ y ∷ []) i ≡ Some x
    → (slice_get xs i ≡ Some x) ⊎ ((i ≡ length xs) × (y ≡ x))
get_push [] y zero x is = inr (refl, same_Some y x is)
get_push [] y (suc i) x is = let no : ⊥ = cc in absurd no
get_push (z ∷ xs) y zero x is = inl is
get_push (z ∷ xs) y (suc i) x is = step (get_push xs y i x is)
  where
    step : (slice_get xs i ≡ Some x) ⊎ ((i ≡ length xs) × (y ≡ x)) → (slice_get xs i ≡ Some x) ⊎
        ((suc i ≡ suc (length xs)) × (y ≡ x))
    step (inl h) = inl h
    step (inr h) = inr (ap suc h.0, h.1)

-- what stands in a front
pub get_take : {A : Type 0} (n : ℕ) (xs : List A) (i : ℕ) (x : A) → slice_get (take n xs) i ≡ Some x →
    (i < n) × (slice_get xs i ≡ Some x)
get_take zero xs i x is = let no : ⊥ = cc in absurd no
get_take (suc n) [] i x is = let no : ⊥ = cc in absurd no
get_take (suc n) (y ∷ xs) zero x is = (omega arith, is)
get_take (suc n) (y ∷ xs) (suc i) x is = let r = get_take n xs i x is in (omega (arith, r.0), r.1)

-- an item of a list stands at a place
pub contains_at : {A : Type 0} (xs : List A) (i : ℕ) (x : A) → slice_get xs i ≡ Some x → Contains xs x
contains_at xs i x is = (i, slice_get_within xs i x is, get_or_from_slice_get xs i x x is)

pub stands_at : {A : Type 0} (xs : List A) (x : A) → Contains xs x → (i : ℕ) × (slice_get xs i ≡ Some x)
stands_at xs x c = (c.0, slice_get-get_or xs c.0 x c.1 ∙ ap Some c.2)

-- an item of a front is one of the list
pub from_front : {A : Type 0} (n : ℕ) (xs : List A) (x : A) → Contains (take n xs) x → Contains xs x
from_front {A} n xs x c = subst (λ (ys : List A). Contains ys x) (take-append-drop n xs)
    (Contains-append_left (take n xs) (drop n xs) x c)
