-- Lists with one item more.
use Rattle.std.proofs.Common.{◌≡◌, ◌+◌, ◌<◌, ℕ, zero, suc, List, [], ◌∷◌, ◌++◌, Option, Some, length, slice_get, refl, sym, ap, ◌∙◌, ⊎_elim, arith}
use Rattle.std.proofs.lemmas.Bool.{cases_eq}

-- the item at a place before the end of a list with one more
get_front : {A : Type 0} (xs : List A) (y : A) (i : ℕ) → i < length xs → slice_get (xs ++ y ∷ []) i ≡ slice_get xs i
get_front [] y i below = absurd (omega arith)
get_front (x ∷ xs) y zero below = refl
get_front (x ∷ xs) y (suc i) below = get_front xs y i (omega arith)

get_end : {A : Type 0} (xs : List A) (y : A) → slice_get (xs ++ y ∷ []) (length xs) ≡ Some y
get_end [] y = refl
get_end (x ∷ xs) y = get_end xs y

-- the items are those of a function, with one more
pub same_pushed : {A : Type 0} (f : ℕ → Option A) (xs : List A) (n : ℕ) (y : A) → length xs ≡ n → f n ≡ Some y
    → ((i : ℕ) → i < n → slice_get xs i ≡ f i) → (i : ℕ) → i < n + 1 → slice_get (xs ++ y ∷ []) i ≡ f i
same_pushed f xs n y count here before i below =
    ⊎_elim
    (λ (is : i ≡ n). ap (slice_get (xs ++ y ∷ [])) (is ∙ sym count) ∙ get_end xs y ∙ sym here ∙ ap f (sym is))
    (λ (apart : i ≡ n → ⊥). get_front xs y i (omega arith) ∙ before i (omega arith))
    (cases_eq i n)
