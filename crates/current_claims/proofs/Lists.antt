-- Lists with one item more, and lists beside each other.
use Rattle.std.proofs.Common.{◌≡◌, ◌⊎◌, inl, inr, ⊎_elim, ◌<◌, ℕ, zero, suc, List, [], ◌∷◌, ◌++◌, Some, length, slice_get, refl, arith}
use Rattle.std.proofs.lemmas.Option.{none-some, same_Some}

-- an item of a list with one more is one of the list's, or the one
pub pushed_cases : {A : Type 0} (xs : List A) (y : A) (i : ℕ) (x : A) → slice_get (xs ++ y ∷ []) i ≡ Some x
    → (slice_get xs i ≡ Some x) ⊎ ((i ≡ length xs) × (y ≡ x))
pushed_cases [] y zero x at = inr (refl, same_Some y x at)
pushed_cases [] y (suc i) x at = absurd (none-some x at)
pushed_cases (z ∷ xs) y zero x at = inl at
pushed_cases (z ∷ xs) y (suc i) x at =
    ⊎_elim
    (λ (in' : slice_get xs i ≡ Some x). inl in')
    (λ (end : (i ≡ length xs) × (y ≡ x)). let is : i ≡ length xs = end.0 in inr (omega arith, end.1))
    (pushed_cases xs y i x at)

-- of two lists, what holds of the items at each place
abbrev pub EachPair : {A B : Type 0} → (A → B → Type 0) → List A → List B → Type 0
EachPair {A} {B} R xs ys = (k : ℕ) (x : A) (y : B) → slice_get xs k ≡ Some x → slice_get ys k ≡ Some y → R x y

-- so it holds of two lists behind two of one length
pub pairs_append : {A B : Type 0} (R : A → B → Type 0) (xs more : List A) (ys further : List B) → length xs ≡ length ys
    → EachPair R xs ys → EachPair R more further → (k : ℕ) (x : A) (y : B)
    → slice_get (xs ++ more) k ≡ Some x → slice_get (ys ++ further) k ≡ Some y → R x y
pairs_append R [] more [] further same front behind k a b at there = behind k a b at there
pairs_append R [] more (y ∷ ys) further same front behind k a b at there = absurd (omega (arith, same))
pairs_append R (x ∷ xs) more [] further same front behind k a b at there = absurd (omega (arith, same))
pairs_append R (x ∷ xs) more (y ∷ ys) further same front behind zero a b at there = front zero a b at there
pairs_append R (x ∷ xs) more (y ∷ ys) further same front behind (suc k) a b at there =
    pairs_append R xs more ys further (omega (arith, same)) (λ k. front (suc k)) behind k a b at there

-- there is an item at each place of a list
pub item_there : {A : Type 0} (xs : List A) (i : ℕ) → i < length xs → (x : A) × (slice_get xs i ≡ Some x)
item_there [] i below = absurd (omega arith)
item_there (x ∷ xs) zero below = (x, refl)
item_there (x ∷ xs) (suc i) below = item_there xs i (omega arith)
