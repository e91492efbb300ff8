-- Lists, one item after another.
use Rattle.std.proofs.Common.{◌≡◌, ◌+◌, ◌<◌, ◌≤◌, ℕ, zero, suc, List, [], ◌∷◌, ◌++◌, All, Contains, Some, None, take, drop, length, get_or, slice_get, sym, ap, ◌∙◌, subst, ⊎_elim, arith, append_assoc}
use Rattle.std.proofs.lemmas.List.{take-append-drop, take-append-le, take_all, take_more}
use Rattle.std.proofs.lemmas.List.Elements.{All-push}
use Rattle.std.proofs.Math.Seq.{take-append-add}
use Rattle.std.proofs.lemmas.Option.{get_or_from_slice_get, none-some, slice_get-get_or, slice_get_cases, slice_get_within}

pub at_contains : {A : Type 0} (xs : List A) (x : A) → Contains xs x → (i : ℕ) × (slice_get xs i ≡ Some x)
at_contains xs x c = (c.0, slice_get-get_or xs c.0 x c.1 ∙ ap Some c.2)

pub contains_at : {A : Type 0} (xs : List A) (i : ℕ) (x : A) → slice_get xs i ≡ Some x → Contains xs x
contains_at xs i x e = (i, slice_get_within xs i x e, get_or_from_slice_get xs i x x e)

pub all_from : {A : Type 0} (P : A → Type 0) (xs : List A) → ((i : ℕ) (x : A) → slice_get xs i ≡ Some x → P x) → All P xs
all_from P xs each i d below = each i (get_or xs i d) (slice_get-get_or xs i d below)

pub item_at : {A : Type 0} (xs : List A) (i : ℕ) → i < length xs → (x : A) × (slice_get xs i ≡ Some x)
item_at {A} xs i below =
    ⊎_elim
    (λ (h : (x : A) × (i < length xs) × (slice_get xs i ≡ Some x) × (get_or xs i x ≡ x)). (h.0, h.2))
    (λ (h : (length xs ≤ i) × (slice_get xs i ≡ None)). let past = h.0 in absurd (omega arith))
    (slice_get_cases xs i).1

-- one item more
pub front_more : {A : Type 0} (xs : List A) (k : ℕ) (x : A) → slice_get xs k ≡ Some x → take (k + 1) xs ≡ take k xs ++ x ∷ []
front_more xs k x at =
    take_more xs k x (slice_get_within xs k x at) ∙ ap (λ y. take k xs ++ y ∷ []) (get_or_from_slice_get xs k x x at)

-- what holds of the items so far and of the next
pub all_more : {A : Type 0} (P : A → Type 0) (xs : List A) (k : ℕ) (x : A) → slice_get xs k ≡ Some x → All P (take k xs) → P x
    → All P (take (k + 1) xs)
all_more P xs k x at all here = subst (All P) (sym (front_more xs k x at)) (All-push P (take k xs) x all here)

-- and of all in the end
pub all_taken : {A : Type 0} (P : A → Type 0) (xs : List A) (k : ℕ) → length xs ≤ k → All P (take k xs) → All P xs
all_taken P xs k past all = subst (All P) (take_all k xs past) all

-- the items so far, the next, and the others
pub split_at : {A : Type 0} (xs : List A) (k : ℕ) (x : A) → slice_get xs k ≡ Some x → xs ≡ take k xs ++ (x ∷ drop (k + 1) xs)
split_at xs k x at =
    sym (take-append-drop (k + 1) xs) ∙ ap (λ ys. ys ++ drop (k + 1) xs) (front_more xs k x at)
    ∙ append_assoc (take k xs) (x ∷ []) (drop (k + 1) xs)

-- ---- lists one after another

pub get_behind : {A : Type 0} (xs ys : List A) (k : ℕ) → slice_get (xs ++ ys) (length xs + k) ≡ slice_get ys k
get_behind [] ys k = ap (slice_get ys) (plain k)
  where
    plain : (n : ℕ) → 0 + n ≡ n
    plain n = omega arith
get_behind (x ∷ xs) ys k = ap (slice_get (x ∷ (xs ++ ys))) (next (length xs) k) ∙ get_behind xs ys k
  where
    next : (n m : ℕ) → suc n + m ≡ suc (n + m)
    next n m = omega arith

pub get_front : {A : Type 0} (xs ys : List A) (k : ℕ) (x : A) → slice_get xs k ≡ Some x → slice_get (xs ++ ys) k ≡ Some x
get_front [] ys k x at = absurd (none-some x at)
get_front (y ∷ xs) ys zero x at = at
get_front (y ∷ xs) ys (suc k) x at = get_front xs ys k x at

pub take_front : {A : Type 0} (xs ys : List A) (k : ℕ) → k ≤ length xs → take k (xs ++ ys) ≡ take k xs
take_front xs ys k within = take-append-le k xs ys within

pub take_behind : {A : Type 0} (xs ys : List A) (k : ℕ) → take (length xs + k) (xs ++ ys) ≡ xs ++ take k ys
take_behind xs ys k = take-append-add xs ys k
