-- Lists, place by place.
use Rattle.std.proofs.Common.{◌≡◌, ◌<◌, ◌⊎◌, ◌++◌, inl, inr, ℕ, zero, suc, List, [], ◌∷◌, All, Some, get_or, length, map, slice_get, refl, subst, ap, arith}
use Rattle.std.proofs.lemmas.List.Elements.{All-cons, All-nil}
use Rattle.std.proofs.lemmas.Option.{get_or_from_slice_get, none-some, same_Some, slice_get-get_or, slice_get_within}

-- what holds of the item at each place holds of all
pub each_has : {A : Type 0} (P : A → Type 0) (xs : List A) → ((k : ℕ) (x : A) → slice_get xs k ≡ Some x → P x) → All P xs
each_has P xs has k d below = has k (get_or xs k d) (slice_get-get_or xs k d below)

-- what holds of all holds of the item at a place
pub item_has : {A : Type 0} (P : A → Type 0) (xs : List A) → All P xs → (k : ℕ) (x : A) → slice_get xs k ≡ Some x → P x
item_has P xs all k x at = subst P (get_or_from_slice_get xs k x x at) (all k x (slice_get_within xs k x at))

-- of a list of one item
pub all_one : {A : Type 0} (P : A → Type 0) (x : A) → P x → All P (x ∷ [])
all_one P x one = All-cons P x [] one (All-nil P)

-- an item stands at each place
pub item_at : {A : Type 0} (xs : List A) (i : ℕ) → i < length xs → (x : A) × (slice_get xs i ≡ Some x)
item_at [] i below = absurd (omega arith)
item_at (x ∷ xs) zero below = (x, refl)
item_at (x ∷ xs) (suc i) below = item_at xs i (omega arith)

-- what holds of all that is made of items of which something else holds
pub all_made : {A B : Type 0} (f : A → B) (P : A → Type 0) (Q : B → Type 0) (xs : List A) → ((x : A) → P x → Q (f x)) → All P xs
    → All Q (map f xs)
all_made f P Q xs each all =
    each_has Q (map f xs) (λ k y at. let u = unmapped f xs k y at in subst Q u.2 (each u.0 (item_has P xs all k u.0 u.1)))
  where
    unmapped : {A B : Type 0} (f : A → B) (xs : List A) (k : ℕ) (y : B) → slice_get (map f xs) k ≡ Some y
        → (x : A) × (slice_get xs k ≡ Some x) × (f x ≡ y)
    unmapped f [] k y at = absurd (none-some y at)
    unmapped f (x ∷ xs) zero y at = (x, refl, same_Some (f x) y at)
    unmapped f (x ∷ xs) (suc k) y at = unmapped f xs k y at

-- an item of a list with one more at its end stands before it, or is that one
pub at_push : {A : Type 0} (xs : List A) (x : A) (k : ℕ) (y : A) → slice_get (xs ++ x ∷ []) k ≡ Some y
    → (slice_get xs k ≡ Some y) ⊎ ((k ≡ length xs) × (x ≡ y))
at_push [] x zero y at = inr (refl, same_Some x y at)
at_push [] x (suc k) y at = absurd (none-some y at)
at_push (z ∷ xs) x zero y at = inl at
at_push (z ∷ xs) x (suc k) y at = by (at_push xs x k y at)
  where
    by : (slice_get xs k ≡ Some y) ⊎ ((k ≡ length xs) × (x ≡ y))
        → (slice_get xs k ≡ Some y) ⊎ ((suc k ≡ suc (length xs)) × (x ≡ y))
    by (inl before) = inl before
    by (inr last) = inr (ap suc last.0, last.1)
