-- Lists, one item after another.
use Rattle.std.proofs.Common.{◌≡◌, ◌≢◌, ◌+◌, ◌<◌, ◌≤◌, ℕ, zero, suc, List, [], ◌∷◌, ◌++◌, All, Contains, Some, take, length, get_or, slice_get, refl, sym, ap, ◌∙◌, subst, arith}
use Rattle.std.proofs.lemmas.List.{take_all, take_more}
use Rattle.std.proofs.lemmas.List.Elements.{All-contains, All-head, All-push, Contains-append_left, Contains-append_right, Contains-get_or}
use Rattle.std.proofs.lemmas.Option.{get_or_from_slice_get, slice_get-get_or, slice_get_within}

pub at_contains : {A : Type 0} (xs : List A) (x : A) → Contains xs x → (i : ℕ) × (slice_get xs i ≡ Some x)
at_contains xs x c = (c.0, slice_get-get_or xs c.0 x c.1 ∙ ap Some c.2)

pub contains_at : {A : Type 0} (xs : List A) (i : ℕ) (x : A) → slice_get xs i ≡ Some x → Contains xs x
contains_at xs i x e = (i, slice_get_within xs i x e, get_or_from_slice_get xs i x x e)

-- one item more
pub front_more : {A : Type 0} (xs : List A) (k : ℕ) (x : A) → slice_get xs k ≡ Some x → take (k + 1) xs ≡ take k xs ++ x ∷ []
front_more xs k x at =
    take_more xs k x (slice_get_within xs k x at) ∙ ap (λ y. take k xs ++ y ∷ []) (get_or_from_slice_get xs k x x at)

-- what holds of the items so far and of the next
pub all_more : {A : Type 0} (P : A → Type 0) (xs : List A) (k : ℕ) (x : A) → slice_get xs k ≡ Some x → All P (take k xs) → P x
    → All P (take (k + 1) xs)
all_more P xs k x at all here = subst (All P) (sym (front_more xs k x at)) (All-push P (take k xs) x all here)

-- and of all in the end
pub all_taken : {A : Type 0} (P : A → Type 0) (xs : List A) (k : ℕ) → length xs ≤ k → All P (take k xs) → All P xs
all_taken P xs k past all = subst (All P) (take_all k xs past) all

-- the item at a place
pub item_at : {A : Type 0} (xs : List A) (i : ℕ) → i < length xs → (x : A) × (slice_get xs i ≡ Some x)
item_at [] i below = absurd (omega arith)
item_at (x ∷ xs) zero below = (x, refl)
item_at (x ∷ xs) (suc i) below = item_at xs i (omega arith)

pub all_left : {A : Type 0} (P : A → Type 0) (xs ys : List A) → All P (xs ++ ys) → All P xs
all_left P xs ys all i d below =
    All-contains P (xs ++ ys) (get_or xs i d) all (Contains-append_left xs ys (get_or xs i d) (Contains-get_or xs i d below))

pub all_right : {A : Type 0} (P : A → Type 0) (xs ys : List A) → All P (xs ++ ys) → All P ys
all_right P xs ys all i d below =
    All-contains P (xs ++ ys) (get_or ys i d) all (Contains-append_right xs ys (get_or ys i d) (Contains-get_or ys i d below))

-- what holds of all holds of the first
pub first_of_all : {A : Type 0} (P : A → Type 0) (xs : List A) (x : A) → xs ≢ [] → x ≡ get_or xs 0 x → All P xs → P x
first_of_all P [] x some is all = absurd (some refl)
first_of_all P (y ∷ ys) x some is all = subst P (sym is) (All-head P y ys all)
