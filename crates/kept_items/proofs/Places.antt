-- Items and places.
use Rattle.std.proofs.Common.{◌≡◌, ◌∙◌, ◌+◌, ◌<◌, ℕ, zero, suc, List, [], ◌∷◌, ◌++◌, All, Some, get_or, drop, length, map, slice_get, refl, sym, ap, subst, arith}
use Rattle.std.proofs.lemmas.List.{drop_more}
use Rattle.std.proofs.lemmas.Option.{get_or_from_slice_get, none-some, same_Some, slice_get-get_or, slice_get_within}
use Rattle.currency_base.specs.Lists.{OnlyOnce}

-- ---- items that all have a property

pub each_has : {A : Type 0} (P : A → Type 0) (xs : List A) → ((k : ℕ) (x : A) → slice_get xs k ≡ Some x → P x) → All P xs
each_has P xs has k d below = has k (get_or xs k d) (slice_get-get_or xs k d below)

pub item_has : {A : Type 0} (P : A → Type 0) (xs : List A) → All P xs → (k : ℕ) (x : A) → slice_get xs k ≡ Some x → P x
item_has P xs all k x at = subst P (get_or_from_slice_get xs k x x at) (all k x (slice_get_within xs k x at))

-- ---- lists that follow each other

pub get_front : {A : Type 0} (xs ys : List A) (k : ℕ) (x : A) → slice_get xs k ≡ Some x → slice_get (xs ++ ys) k ≡ Some x
get_front [] ys k x at = absurd (none-some x at)
get_front (z ∷ xs) ys zero x at = at
get_front (z ∷ xs) ys (suc k) x at = get_front xs ys k x at

pub get_back : {A : Type 0} (xs ys : List A) (k : ℕ) (x : A) → slice_get ys k ≡ Some x
    → slice_get (xs ++ ys) (length xs + k) ≡ Some x
get_back [] ys k x at = let same : k ≡ 0 + k = omega arith in ap (slice_get ys) (sym same) ∙ at
get_back (z ∷ xs) ys k x at =
    let same : length (z ∷ xs) + k ≡ suc (length xs + k) = omega arith in
    ap (slice_get (z ∷ (xs ++ ys))) same ∙ get_back xs ys k x at

pub all_front : {A : Type 0} (P : A → Type 0) (xs ys : List A) → All P (xs ++ ys) → All P xs
all_front P xs ys all = each_has P xs (λ k x at. item_has P (xs ++ ys) all k x (get_front xs ys k x at))

-- ---- mapped lists

pub unmapped : {A B : Type 0} (f : A → B) (xs : List A) (k : ℕ) (y : B) → slice_get (map f xs) k ≡ Some y
    → (x : A) × (slice_get xs k ≡ Some x) × (f x ≡ y)
unmapped f [] k y at = absurd (none-some y at)
unmapped f (x ∷ xs) zero y at = (x, refl, same_Some (f x) y at)
unmapped f (x ∷ xs) (suc k) y at = unmapped f xs k y at

pub mapped : {A B : Type 0} (f : A → B) (xs : List A) (k : ℕ) (x : A) → slice_get xs k ≡ Some x
    → slice_get (map f xs) k ≡ Some (f x)
mapped f [] k x at = absurd (none-some x at)
mapped f (z ∷ xs) zero x at = ap (λ y. Some (f y)) (same_Some z x at)
mapped f (z ∷ xs) (suc k) x at = mapped f xs k x at

-- names that stand only once do so in the front of a list
pub once_front : {A B : Type 0} (f : A → B) (xs ys : List A) → OnlyOnce (map f (xs ++ ys)) → OnlyOnce (map f xs)
once_front f xs ys once i j y at_i at_j =
    let a = unmapped f xs i y at_i in
    let b = unmapped f xs j y at_j in
    once i j y (mapped f (xs ++ ys) i a.0 (get_front xs ys i a.0 a.1) ∙ ap Some a.2)
    (mapped f (xs ++ ys) j b.0 (get_front xs ys j b.0 b.1) ∙ ap Some b.2)

-- ---- what a loop over a list reads

pub read_item : {A : Type 0} (xs ys : List A) (i : ℕ) (x : A) → ys ≡ xs → i < length ys → x ≡ get_or ys i x
    → slice_get xs i ≡ Some x
read_item xs ys i x same below read =
    ap (λ l. slice_get l i) (sym same) ∙ (slice_get-get_or ys i x below ∙ ap Some (sym read))

pub drop_next : {A : Type 0} (xs : List A) (i : ℕ) (x : A) → slice_get xs i ≡ Some x → drop i xs ≡ x ∷ drop (i + 1) xs
drop_next xs i x at =
    drop_more xs i x (slice_get_within xs i x at) ∙ ap (λ y. y ∷ drop (i + 1) xs) (get_or_from_slice_get xs i x x at)
