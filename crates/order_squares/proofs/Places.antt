-- What stands where in lists that are put together.
use Rattle.std.proofs.Common.{◌≡◌, ◌⊎◌, ◌+◌, ◌<◌, ◌∙◌, ℕ, zero, suc, List, [], ◌∷◌, ◌++◌, Some, map, length, option_map, slice_get, refl, sym, ap, inl, inr, zero-add, arith}
use Rattle.std.proofs.lemmas.Option.{same_Some, none-some, slice_get-map}

-- what stands in a list stands there in a longer one
pub get_old : {A : Type 0} (xs ys : List A) (i : ℕ) (x : A) → slice_get xs i ≡ Some x → slice_get (xs ++ ys) i ≡ Some x
get_old [] ys i x at = absurd (none-some x at)
get_old (y ∷ xs) ys zero x at = at
get_old (y ∷ xs) ys (suc i) x at = get_old xs ys i x at

-- what stands in the second of two lists stands behind the first
pub get_new : {A : Type 0} (xs ys : List A) (j : ℕ) (x : A) → slice_get ys j ≡ Some x → slice_get (xs ++ ys)
    (length xs + j) ≡ Some x
get_new [] ys j x at = ap (slice_get ys) (zero-add j) ∙ at
get_new (y ∷ xs) ys j x at =
    let next : suc (length xs) + j ≡ suc (length xs + j) = omega arith in
    ap (slice_get (y ∷ (xs ++ ys))) next ∙ get_new xs ys j x at

-- the last item
pub get_last : {A : Type 0} (xs : List A) (x : A) → slice_get (xs ++ x ∷ []) (length xs) ≡ Some x
get_last [] x = refl
get_last (y ∷ xs) x = get_last xs x

-- what stands in two lists put together stands in one of them
pub get_cases : {A : Type 0} (xs ys : List A) (i : ℕ) (x : A) → slice_get (xs ++ ys) i ≡ Some x
    → (slice_get xs i ≡ Some x) ⊎ ((j : ℕ) × (i ≡ length xs + j) × (slice_get ys j ≡ Some x))
get_cases [] ys i x at = inr (i, sym (zero-add i), at)
get_cases (y ∷ xs) ys zero x at = inl at
get_cases (y ∷ xs) ys (suc i) x at = go (get_cases xs ys i x at)
  where
    go : (slice_get xs i ≡ Some x) ⊎ ((j : ℕ) × (i ≡ length xs + j) × (slice_get ys j ≡ Some x))
        → (slice_get xs i ≡ Some x) ⊎ ((j : ℕ) × (suc i ≡ suc (length xs) + j) × (slice_get ys j ≡ Some x))
    go (inl h) = inl h
    go (inr (j, e, h)) = inr (j, omega (arith, e), h)

-- the one item of a list
pub get_only : {A : Type 0} (x : A) (i : ℕ) (y : A) → slice_get (x ∷ []) i ≡ Some y → (i ≡ 0) × (x ≡ y)
get_only x zero y at = (refl, same_Some x y at)
get_only x (suc i) y at = absurd (none-some y at)

-- what stands in a mapped list comes from what stands there
pub get_mapped : {A B : Type 0} (f : A → B) (xs : List A) (i : ℕ) (y : B) → slice_get (map f xs) i ≡ Some y →
    (x : A) × (slice_get xs i ≡ Some x) × (f x ≡ y)
get_mapped f [] i y at = absurd (none-some y at)
get_mapped f (x ∷ xs) zero y at = (x, refl, same_Some (f x) y at)
get_mapped f (x ∷ xs) (suc i) y at = get_mapped f xs i y at

pub get_map : {A B : Type 0} (f : A → B) (xs : List A) (i : ℕ) (x : A) → slice_get xs i ≡ Some x
    → slice_get (map f xs) i ≡ Some (f x)
get_map f xs i x at = slice_get-map f xs i ∙ ap (option_map f) at

-- some item stands at a place within a list
pub item_at : {A : Type 0} (xs : List A) (i : ℕ) → i < length xs → (x : A) × (slice_get xs i ≡ Some x)
item_at [] i within = absurd (omega arith)
item_at (x ∷ xs) zero within = (x, refl)
item_at (x ∷ xs) (suc i) within = item_at xs i (omega arith)
