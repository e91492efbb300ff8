-- Lists of which the items at each place go together.
use Rattle.std.proofs.Common.{◌≡◌, ◌⊎◌, ◌+◌, ◌<◌, ◌≤◌, ◌∙◌, ℕ, zero, suc, List, [], ◌∷◌, ◌++◌, All, Contains, Some, get_or, length, map, take, slice_get, refl, sym, ap, subst, inl, inr, arith}
use Rattle.std.proofs.lemmas.List.{take_more, take_all, length_push}
use Rattle.std.proofs.lemmas.Option.{get_or_from_slice_get, none-some, same_Some, slice_get-get_or, slice_get_within}
use Rattle.spec_parts.specs.Steps.{ArePaired}

-- ---- items and places

pub item_at : {A : Type 0} (xs : List A) (i : ℕ) → i < length xs → (x : A) × (slice_get xs i ≡ Some x)
item_at [] i below = absurd (omega (arith, below))
item_at (x ∷ xs) zero below = (x, refl)
item_at (x ∷ xs) (suc i) below = item_at xs i (omega (arith, below))

pub is_in : {A : Type 0} (xs : List A) (i : ℕ) (x : A) → slice_get xs i ≡ Some x → Contains xs x
is_in xs i x at = (i, slice_get_within xs i x at, get_or_from_slice_get xs i x x at)

pub stands : {A : Type 0} (xs : List A) (x : A) → Contains xs x → (i : ℕ) × (slice_get xs i ≡ Some x)
stands xs x c = (c.0, slice_get-get_or xs c.0 x c.1 ∙ ap Some c.2)

pub not_in : {A : Type 0} (x : A) → Contains [] x → ⊥
not_in x c = absurd (omega (arith, c.1))

pub each_has : {A : Type 0} (P : A → Type 0) (xs : List A) → ((k : ℕ) (x : A) → slice_get xs k ≡ Some x → P x) → All P xs
each_has P xs has k d below = has k (get_or xs k d) (slice_get-get_or xs k d below)

pub item_has : {A : Type 0} (P : A → Type 0) (xs : List A) → All P xs → (k : ℕ) (x : A) → slice_get xs k ≡ Some x → P x
item_has P xs all k x at = subst P (get_or_from_slice_get xs k x x at) (all k x (slice_get_within xs k x at))

-- with one item more, an item stood there before, or is that one
pub at_push : {A : Type 0} (xs : List A) (y : A) (i : ℕ) (x : A) → slice_get (xs ++ y ∷ []) i ≡ Some x
    → (slice_get xs i ≡ Some x) ⊎ ((i ≡ length xs) × (y ≡ x))
at_push [] y zero x is = inr (refl, same_Some y x is)
at_push [] y (suc i) x is = absurd (none-some x is)
at_push (z ∷ xs) y zero x is = inl is
at_push (z ∷ xs) y (suc i) x is = step (at_push xs y i x is)
  where
    step : (slice_get xs i ≡ Some x) ⊎ ((i ≡ length xs) × (y ≡ x)) → (slice_get xs i ≡ Some x) ⊎
        ((suc i ≡ suc (length xs)) × (y ≡ x))
    step (inl h) = inl h
    step (inr h) = inr (ap suc h.0, h.1)

-- what stands in the first items of a list stands in the list
pub get_take : {A : Type 0} (n : ℕ) (xs : List A) (i : ℕ) (x : A) → slice_get (take n xs) i ≡ Some x →
    (i < n) × (slice_get xs i ≡ Some x)
get_take zero xs i x at = absurd (none-some x at)
get_take (suc n) [] i x at = absurd (none-some x at)
get_take (suc n) (y ∷ xs) zero x at = (omega arith, at)
get_take (suc n) (y ∷ xs) (suc i) x at = let more = get_take n xs i x at in (omega (arith, more.0), more.1)

pub take_get : {A : Type 0} (n : ℕ) (xs : List A) (i : ℕ) (x : A) → i < n → slice_get xs i ≡ Some x
    → slice_get (take n xs) i ≡ Some x
take_get zero xs i x below at = absurd (omega arith)
take_get (suc n) [] i x below at = at
take_get (suc n) (y ∷ xs) zero x below at = at
take_get (suc n) (y ∷ xs) (suc i) x below at = take_get n xs i x (omega arith) at

-- the items up to the next place
pub take_next : {A : Type 0} (xs : List A) (i : ℕ) (x : A) → slice_get xs i ≡ Some x → take (i + 1) xs ≡ take i xs ++ x ∷ []
take_next xs i x at =
    take_more xs i x (slice_get_within xs i x at) ∙ ap (λ y. take i xs ++ y ∷ []) (get_or_from_slice_get xs i x x at)

-- ---- pairing

pub paired_none : {A B : Type 0} (R : A → B → Type 0) (xs : List A) → ArePaired R (take 0 xs) []
paired_none R xs = record { many = refl; each = λ k x y at_x at_y. absurd (none-some y at_y) }

paired_push : {A B : Type 0} (R : A → B → Type 0) (xs : List A) (ys : List B) (x : A) (y : B) → ArePaired R xs ys → R x y
    → ArePaired R (xs ++ x ∷ []) (ys ++ y ∷ [])
paired_push {A} {B} R xs ys x y are r = record { many = omega (arith, length_push xs x, length_push ys y, are.many); each = each }
  where
    each : (k : ℕ) (a : A) (b : B) → slice_get (xs ++ x ∷ []) k ≡ Some a → slice_get (ys ++ y ∷ []) k ≡ Some b → R a b
    each k a b at_a at_b = by (at_push xs x k a at_a) (at_push ys y k b at_b)
      where
        by : (slice_get xs k ≡ Some a) ⊎ ((k ≡ length xs) × (x ≡ a)) → (slice_get ys k ≡ Some b) ⊎
            ((k ≡ length ys) × (y ≡ b)) → R a b
        by (inl old) (inl old') = are.each k a b old old'
        by (inl old) (inr new') = absurd (omega (arith, slice_get_within xs k a old, new'.0, are.many))
        by (inr new) (inl old') = absurd (omega (arith, slice_get_within ys k b old', new.0, are.many))
        by (inr new) (inr new') = subst (R a) new'.1 (subst (λ z. R z y) new.1 r)

pub paired_more : {A B : Type 0} (R : A → B → Type 0) (xs : List A) (i : ℕ) (ys new : List B) (x : A) (y : B)
    → slice_get xs i ≡ Some x
    → ArePaired R (take i xs) ys → R x y → new ≡ ys ++ y ∷ [] → ArePaired R (take (i + 1) xs) new
paired_more R xs i ys new x y at are r pushed =
    subst (ArePaired R (take (i + 1) xs)) (sym pushed)
    (subst (λ l. ArePaired R l (ys ++ y ∷ [])) (sym (take_next xs i x at)) (paired_push R (take i xs) ys x y are r))

pub paired_all : {A B : Type 0} (R : A → B → Type 0) (xs : List A) (i : ℕ) (ys : List B) → take i xs ≡ xs
    → ArePaired R (take i xs) ys
    → ArePaired R xs ys
paired_all R xs i ys whole are = subst (λ l. ArePaired R l ys) whole are

-- what goes with an item
pub partner : {A B : Type 0} (R : A → B → Type 0) (xs : List A) (ys : List B) (k : ℕ) (x : A) → ArePaired R xs ys
    → slice_get xs k ≡ Some x
    → (y : B) × (slice_get ys k ≡ Some y) × R x y
partner R xs ys k x are at =
    let within : k < length ys = omega (arith, slice_get_within xs k x at, are.many) in
    let found = item_at ys k within in
    (found.0, found.1, are.each k x found.0 at found.1)

-- the next item, as a loop reads it
pub paired_at : {A B : Type 0} (R : A → B → Type 0) (xs : List A) (i : ℕ) (d : A) (ys new : List B) (y : B) → i < length xs
    → ArePaired R (take i xs) ys → R (get_or xs i d) y → new ≡ ys ++ y ∷ [] → ArePaired R (take (i + 1) xs) new
paired_at R xs i d ys new y below are r pushed =
    paired_more R xs i ys new (get_or xs i d) y (slice_get-get_or xs i d below) are r pushed

-- all items, at the end of a loop
pub paired_end : {A B : Type 0} (R : A → B → Type 0) (xs : List A) (i : ℕ) (ys : List B) → length xs ≤ i
    → ArePaired R (take i xs) ys
    → ArePaired R xs ys
paired_end R xs i ys end are = subst (λ l. ArePaired R l ys) (take_all i xs end) are

-- what a loop over a slice reads, where that slice is the list
pub read_item : {A : Type 0} (xs ys : List A) (i : ℕ) (x : A) → ys ≡ xs → i < length ys → x ≡ get_or ys i x
    → slice_get xs i ≡ Some x
read_item xs ys i x same below read =
    ap (λ l. slice_get l i) (sym same) ∙ (slice_get-get_or ys i x below ∙ ap Some (sym read))

-- ---- mapped lists

pub unmapped : {A B : Type 0} (f : A → B) (xs : List A) (i : ℕ) (y : B) → slice_get (map f xs) i ≡ Some y
    → (x : A) × (slice_get xs i ≡ Some x) × (f x ≡ y)
unmapped f [] i y at = absurd (none-some y at)
unmapped f (x ∷ xs) zero y at = (x, refl, same_Some (f x) y at)
unmapped f (x ∷ xs) (suc i) y at = unmapped f xs i y at

pub mapped : {A B : Type 0} (f : A → B) (xs : List A) (i : ℕ) (x : A) → slice_get xs i ≡ Some x
    → slice_get (map f xs) i ≡ Some (f x)
mapped f [] i x at = absurd (none-some x at)
mapped f (z ∷ xs) zero x at = ap (λ y. Some (f y)) (same_Some z x at)
mapped f (z ∷ xs) (suc i) x at = mapped f xs i x at
