-- Places in a list with one item more.
use Rattle.std.proofs.Common.{◌≡◌, ◌⊎◌, ◌<◌, ◌≤◌, ◌++◌, ◌∷◌, ℕ, zero, suc, List, [], All, Some, length, slice_get, refl, ap, subst, inl, inr, arith}
use Rattle.std.proofs.lemmas.List.Elements.{All-head, All-tail}
use Rattle.std.proofs.lemmas.Option.{none-some, same_Some, slice_get_within}

-- what stands at a place stood there, or is the last
pub get_push : {A : Type 0} (xs : List A) (y z : A) (k : ℕ) → slice_get (xs ++ y ∷ []) k ≡ Some z
    → (slice_get xs k ≡ Some z) ⊎ ((k ≡ length xs) × (y ≡ z))
get_push [] y z zero at = inr (refl, same_Some y z at)
get_push [] y z (suc k) at = absurd (none-some z at)
get_push (x ∷ xs) y z zero at = inl at
get_push (x ∷ xs) y z (suc k) at = by (get_push xs y z k at)
  where
    by : (slice_get xs k ≡ Some z) ⊎ ((k ≡ length xs) × (y ≡ z))
        → (slice_get xs k ≡ Some z) ⊎ ((suc k ≡ suc (length xs)) × (y ≡ z))
    by (inl h) = inl h
    by (inr h) = inr (ap suc h.0, h.1)

below_at : (bound : ℕ) (xs : List ℕ) (k x : ℕ) → All (λ n. n < bound) xs → slice_get xs k ≡ Some x → x < bound
below_at bound (y ∷ xs) zero x below at =
    subst (λ (n : ℕ). n < bound) (same_Some y x at) (All-head (λ n. n < bound) y xs below)
below_at bound (y ∷ xs) (suc k) x below at = below_at bound xs k x (All-tail (λ n. n < bound) y xs below) at
below_at bound [] k x below at = absurd (none-some x at)

-- numbers that ascend still do with one more that is not below their bound
pub ascend_push : (xs : List ℕ) (bound last : ℕ) → All (λ n. n < bound) xs → bound ≤ last
    → ((i j x y : ℕ) → i < j → slice_get xs i ≡ Some x → slice_get xs j ≡ Some y → x < y)
    → (i j x y : ℕ) → i < j → slice_get (xs ++ last ∷ []) i ≡ Some x → slice_get (xs ++ last ∷ []) j ≡ Some y → x < y
ascend_push xs bound last below past ascend i j x y less at at' = by (get_push xs last x i at) (get_push xs last y j at')
  where
    by : (slice_get xs i ≡ Some x) ⊎ ((i ≡ length xs) × (last ≡ x))
        → (slice_get xs j ≡ Some y) ⊎ ((j ≡ length xs) × (last ≡ y)) → x < y
    by (inl one) (inl other) = ascend i j x y less one other
    by (inl one) (inr other) =
        let inside = below_at bound xs i x below one in
        let same = other.1 in
        omega (arith, inside, past, same)
    by (inr one) (inl other) = absurd (omega (arith, less, one.0, slice_get_within xs j y other))
    by (inr one) (inr other) = absurd (omega (arith, less, one.0, other.0))
