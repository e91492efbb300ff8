-- Lists, item by item.
use Rattle.std.proofs.Common.{◌≡◌, ℕ, zero, suc, List, [], ◌∷◌, All, Some, get_or, map, slice_get, refl, ap}
use Rattle.std.proofs.lemmas.Option.{none-some, same_Some, slice_get-get_or}

pub all_of : {A : Type 0} (P : A → Type 0) (xs : List A) → ((k : ℕ) (x : A) → slice_get xs k ≡ Some x → P x) → All P xs
all_of P xs has k d below = has k (get_or xs k d) (slice_get-get_or xs k d below)

pub mapped_at : {A B : Type 0} (f : A → B) (xs : List A) (k : ℕ) (x : A) → slice_get xs k ≡ Some x
    → slice_get (map f xs) k ≡ Some (f x)
mapped_at f [] k x at = absurd (none-some x at)
mapped_at f (z ∷ xs) zero x at = ap (λ y. Some (f y)) (same_Some z x at)
mapped_at f (z ∷ xs) (suc k) x at = mapped_at f xs k x at

pub unmapped : {A B : Type 0} (f : A → B) (xs : List A) (k : ℕ) (y : B) → slice_get (map f xs) k ≡ Some y
    → (x : A) × (slice_get xs k ≡ Some x) × (f x ≡ y)
unmapped f [] k y at = absurd (none-some y at)
unmapped f (x ∷ xs) zero y at = (x, refl, same_Some (f x) y at)
unmapped f (x ∷ xs) (suc k) y at = unmapped f xs k y at
