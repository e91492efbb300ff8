-- Lists, place by place.
use Rattle.std.proofs.Common.{◌≡◌, ◌∙◌, ◌<◌, ℕ, zero, suc, List, [], ◌∷◌, All, Contains, Some, get_or, length, map, slice_get, refl, ap, subst, arith}
use Rattle.std.proofs.lemmas.List.Elements.{All-nil, All-cons}
use Rattle.std.proofs.lemmas.Option.{get_or_from_slice_get, none-some, same_Some, slice_get-get_or, slice_get_within}

-- what holds of the item at each place holds of all
pub each_has : {A : Type 0} (P : A → Type 0) (xs : List A) → ((k : ℕ) (x : A) → slice_get xs k ≡ Some x → P x) → All P xs
each_has P xs has k d below = has k (get_or xs k d) (slice_get-get_or xs k d below)

-- what holds of all holds of the item at a place
pub item_has : {A : Type 0} (P : A → Type 0) (xs : List A) → All P xs → (k : ℕ) (x : A) → slice_get xs k ≡ Some x → P x
item_has P xs all k x at = subst P (get_or_from_slice_get xs k x x at) (all k x (slice_get_within xs k x at))

-- of a list of one item
pub all_one : {A : Type 0} (P : A → Type 0) (x : A) → P x → All P (x ∷ [])
all_one P x one = All-cons P x [] one (All-nil P)

-- what stands at a place is in the list
pub is_in : {A : Type 0} (xs : List A) (k : ℕ) (x : A) → slice_get xs k ≡ Some x → Contains xs x
is_in xs k x at = (k, slice_get_within xs k x at, get_or_from_slice_get xs k x x at)

-- and what is in the list stands at a place
pub stands_at : {A : Type 0} (xs : List A) (x : A) → Contains xs x → (k : ℕ) × (slice_get xs k ≡ Some x)
stands_at xs x is = (is.0, slice_get-get_or xs is.0 x is.1 ∙ ap Some is.2)

-- an item stands at each place
pub item_at : {A : Type 0} (xs : List A) (i : ℕ) → i < length xs → (x : A) × (slice_get xs i ≡ Some x)
item_at [] i below = absurd (omega arith)
item_at (x ∷ xs) zero below = (x, refl)
item_at (x ∷ xs) (suc i) below = item_at xs i (omega arith)

-- a list of one item has no other
pub one_item : {A : Type 0} (x y : A) → Contains (x ∷ []) y → x ≡ y
one_item x y is = let at = stands_at (x ∷ []) y is in go at.0 at.1
  where
    go : (k : ℕ) → slice_get (x ∷ []) k ≡ Some y → x ≡ y
    go zero at = same_Some x y at
    go (suc k) at = absurd (none-some y at)

-- ---- mapped lists

-- what stands in a mapped list is made of an item
pub unmapped : {A B : Type 0} (f : A → B) (xs : List A) (k : ℕ) (y : B) → slice_get (map f xs) k ≡ Some y
    → (x : A) × (slice_get xs k ≡ Some x) × (f x ≡ y)
unmapped f [] k y at = absurd (none-some y at)
unmapped f (x ∷ xs) zero y at = (x, refl, same_Some (f x) y at)
unmapped f (x ∷ xs) (suc k) y at = unmapped f xs k y at

-- what an item is made into stands at its place
pub mapped : {A B : Type 0} (f : A → B) (xs : List A) (k : ℕ) (x : A) → slice_get xs k ≡ Some x
    → slice_get (map f xs) k ≡ Some (f x)
mapped f [] k x at = absurd (none-some x at)
mapped f (z ∷ xs) zero x at = ap (λ y. Some (f y)) (same_Some z x at)
mapped f (z ∷ xs) (suc k) x at = mapped f xs k x at

-- what holds of all that is made of items of which something else holds
pub all_made : {A B : Type 0} (f : A → B) (P : A → Type 0) (Q : B → Type 0) (xs : List A) → ((x : A) → P x → Q (f x)) → All P xs
    → All Q (map f xs)
all_made f P Q xs each all =
    each_has Q (map f xs) (λ k y at. let u = unmapped f xs k y at in subst Q u.2 (each u.0 (item_has P xs all k u.0 u.1)))
