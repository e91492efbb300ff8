-- What stands at places of lists.
use Rattle.std.proofs.Common.{◌≡◌, ◌⊎◌, ◌<◌, ◌+◌, ◌∙◌, ℕ, zero, suc, List, [], ◌∷◌, ◌++◌, All, Some, get_or, length, map, slice_get, take, refl, sym, ap, subst, inl, inr, arith}
use Rattle.std.proofs.lemmas.List.{map-append, take_more}
use Rattle.std.proofs.lemmas.Option.{get_or_from_slice_get, same_Some, slice_get-get_or, slice_get_within}

-- some item stands at a place within a list
pub item_at : {A : Type 0} (xs : List A) (i : ℕ) → i < length xs → (x : A) × (slice_get xs i ≡ Some x)
item_at [] i below = absurd (omega (arith, below))
item_at (x ∷ xs) zero below = (x, refl)
item_at (x ∷ xs) (suc i) below = item_at xs i (omega (arith, below))

-- each item has what the item at each place has
pub each_has : {A : Type 0} (P : A → Type 0) (xs : List A) → ((k : ℕ) (x : A) → slice_get xs k ≡ Some x → P x) → All P xs
each_has P xs has k d below = has k (get_or xs k d) (slice_get-get_or xs k d below)

pub item_has : {A : Type 0} (P : A → Type 0) (xs : List A) → All P xs → (k : ℕ) (x : A) → slice_get xs k ≡ Some x → P x
item_has P xs all k x at = subst P (get_or_from_slice_get xs k x x at) (all k x (slice_get_within xs k x at))

-- what stands in a list stands there with more behind
pub at_front : {A : Type 0} (xs ys : List A) (i : ℕ) (x : A) → slice_get xs i ≡ Some x → slice_get (xs ++ ys) i ≡ Some x
at_front [] ys i x at = let no : ⊥ = cc in absurd no
at_front (z ∷ xs) ys zero x at = at
at_front (z ∷ xs) ys (suc i) x at = at_front xs ys i x at

-- with one item more, an item stood there before, or is that one
pub at_push : {A : Type 0} (xs : List A) (y : A) (i : ℕ) (x : A) → slice_get (xs ++ y ∷ []) i ≡ Some x
    → (slice_get xs i ≡ Some x) ⊎ ((i ≡ length xs) × (y ≡ x))
at_push [] y zero x is = inr (refl, same_Some y x is)
at_push [] y (suc i) x is = let no : ⊥ = cc in absurd no
at_push (z ∷ xs) y zero x is = inl is
at_push (z ∷ xs) y (suc i) x is = step (at_push xs y i x is)
  where
    step : (slice_get xs i ≡ Some x) ⊎ ((i ≡ length xs) × (y ≡ x)) → (slice_get xs i ≡ Some x) ⊎
        ((suc i ≡ suc (length xs)) × (y ≡ x))
    step (inl h) = inl h
    step (inr h) = inr (ap suc h.0, h.1)

-- the items up to the next place
pub take_next : {A : Type 0} (xs : List A) (i : ℕ) (x : A) → slice_get xs i ≡ Some x → take (i + 1) xs ≡ take i xs ++ x ∷ []
take_next xs i x at =
    take_more xs i x (slice_get_within xs i x at) ∙ ap (λ y. take i xs ++ y ∷ []) (get_or_from_slice_get xs i x x at)

-- the same with a function's values
pub map_next : {A B : Type 0} (f : A → B) (xs : List A) (i : ℕ) (x : A) (old new : List B) → slice_get xs i ≡ Some x
    → old ≡ map f (take i xs)
    → new ≡ old ++ f x ∷ [] → new ≡ map f (take (i + 1) xs)
map_next f xs i x old new at were push =
    push ∙ ap (λ ys. ys ++ f x ∷ []) were ∙ sym (map-append f (take i xs) (x ∷ [])) ∙ ap (map f) (sym (take_next xs i x at))

-- and with none
pub copy_next : {A : Type 0} (xs : List A) (i : ℕ) (x : A) (old new : List A) → slice_get xs i ≡ Some x
    → old ≡ take i xs → new ≡ old ++ x ∷ []
    → new ≡ take (i + 1) xs
copy_next xs i x old new at were push = push ∙ ap (λ ys. ys ++ x ∷ []) were ∙ sym (take_next xs i x at)
