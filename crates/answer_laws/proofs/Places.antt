-- Items at the places of a list.
use Rattle.std.proofs.Common.{◌≡◌, ◌<◌, ℕ, zero, suc, List, [], ◌∷◌, All, Contains, Some, length, slice_get, slice_index_or, refl, sym, subst, arith}
use Rattle.std.proofs.lemmas.Option.{get_or_from_slice_get, slice_get_within}

-- the item at a place
pub item_at : {A : Type 0} (xs : List A) (i : ℕ) → i < length xs → (x : A) × (slice_get xs i ≡ Some x)
item_at [] i below = absurd (omega arith)
item_at (x ∷ xs) zero below = (x, refl)
item_at (x ∷ xs) (suc i) below = item_at xs i (omega arith)

pub all_at : {A : Type 0} (P : A → Type 0) (xs : List A) (i : ℕ) (x : A) → All P xs → slice_get xs i ≡ Some x → P x
all_at P xs i x all at = subst P (get_or_from_slice_get xs i x x at) (all i x (slice_get_within xs i x at))

pub at_place : {A : Type 0} (P : A → Type 0) (xs : List A) (i : ℕ) (d x : A) → slice_get xs i ≡ Some x → P x
    → P (slice_index_or xs i d)
at_place P xs i d x at holds = subst P (sym (get_or_from_slice_get xs i x d at)) holds

-- what stands at a place is in the list
pub is_in : {A : Type 0} (xs : List A) (i : ℕ) (x : A) → slice_get xs i ≡ Some x → Contains xs x
is_in xs i x at = (i, slice_get_within xs i x at, get_or_from_slice_get xs i x x at)
