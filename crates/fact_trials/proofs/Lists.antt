-- Lists, place by place.
use Rattle.std.proofs.Common.{◌≡◌, ◌∙◌, ◌+◌, ◌<◌, ◌≤◌, ℕ, zero, suc, List, [], ◌∷◌, ◌++◌, All, Contains, Some, get_or, length, slice_get, take, refl, sym, ap, subst, arith}
use Rattle.std.proofs.lemmas.List.{take_all, take_more}
use Rattle.std.proofs.lemmas.List.Elements.{All-push}
use Rattle.std.proofs.lemmas.Option.{get_or_from_slice_get, none-some, slice_get_within}

pub item_has : {A : Type 0} (P : A → Type 0) (xs : List A) → All P xs → (k : ℕ) (x : A) → slice_get xs k ≡ Some x → P x
item_has P xs all k x at = subst P (get_or_from_slice_get xs k x x at) (all k x (slice_get_within xs k x at))

pub item_at : {A : Type 0} (xs : List A) (i : ℕ) → i < length xs → (x : A) × (slice_get xs i ≡ Some x)
item_at [] i below = absurd (omega arith)
item_at (x ∷ xs) zero below = (x, refl)
item_at (x ∷ xs) (suc i) below = item_at xs i (omega arith)

-- what holds of the items so far and of the next
pub all_more : {A : Type 0} (P : A → Type 0) (xs : List A) (k : ℕ) (x : A) → slice_get xs k ≡ Some x → All P (take k xs) → P x
    → All P (take (k + 1) xs)
all_more P xs k x at all here =
    subst (All P)
    (sym (take_more xs k x (slice_get_within xs k x at) ∙ ap (λ y. take k xs ++ y ∷ []) (get_or_from_slice_get xs k x x at)))
    (All-push P (take k xs) x all here)

-- and of all in the end
pub all_taken : {A : Type 0} (P : A → Type 0) (xs : List A) (k : ℕ) → length xs ≤ k → All P (take k xs) → All P xs
all_taken P xs k past all = subst (All P) (take_all k xs past) all

-- a list of one item has no other
pub alone : {A : Type 0} (x y : A) → Contains (x ∷ []) y → x ≡ y
alone x y is = go is.0 is.1 is.2
  where
    go : (k : ℕ) → k < 1 → get_or (x ∷ []) k y ≡ y → x ≡ y
    go zero below same = same
    go (suc k) below same = absurd (omega arith)

pub none_more : {A : Type 0} (y : A) (ys : List A) → [] ≡ y ∷ ys → ⊥
none_more y ys e = none-some y (ap (λ l. slice_get l 0) e)
