-- Lists, place by place.
use Rattle.std.proofs.Common.{◌≡◌, ◌∙◌, ◌<◌, ◌≤◌, ℕ, zero, suc, List, [], ◌∷◌, ◌++◌, All, Some, get_or, length, slice_get, refl, sym, ap, subst, ⊎_elim, arith}
use Rattle.std.proofs.lemmas.Bool.{cases_lt}
use Rattle.std.proofs.lemmas.List.{length_push}
use Rattle.std.proofs.lemmas.Option.{get_or_from_slice_get, same_Some, slice_get-get_or, slice_get_within}

-- what holds of the item at each place holds of all
pub each_has : {A : Type 0} (P : A → Type 0) (xs : List A) → ((k : ℕ) (x : A) → slice_get xs k ≡ Some x → P x) → All P xs
each_has P xs has k d below = has k (get_or xs k d) (slice_get-get_or xs k d below)

-- what holds of all holds of the item at a place
pub item_has : {A : Type 0} (P : A → Type 0) (xs : List A) → All P xs → (k : ℕ) (x : A) → slice_get xs k ≡ Some x → P x
item_has P xs all k x at = subst P (get_or_from_slice_get xs k x x at) (all k x (slice_get_within xs k x at))

-- the item at a place before the end of a list with one more
pub get_front : {A : Type 0} (xs : List A) (y : A) (i : ℕ) → i < length xs → slice_get (xs ++ y ∷ []) i ≡ slice_get xs i
get_front [] y i below = absurd (omega arith)
get_front (x ∷ xs) y zero below = refl
get_front (x ∷ xs) y (suc i) below = get_front xs y i (omega arith)

-- the item at the end
pub get_end : {A : Type 0} (xs : List A) (y : A) → slice_get (xs ++ y ∷ []) (length xs) ≡ Some y
get_end [] y = refl
get_end (x ∷ xs) y = get_end xs y

-- an item stands at each place
pub item_at : {A : Type 0} (xs : List A) (i : ℕ) → i < length xs → (x : A) × (slice_get xs i ≡ Some x)
item_at [] i below = absurd (omega arith)
item_at (x ∷ xs) zero below = (x, refl)
item_at (x ∷ xs) (suc i) below = item_at xs i (omega arith)

-- what holds of the item at each place, and of one more at the end
pub each_pushed : {A : Type 0} (P : ℕ → A → Type 0) (xs : List A) (n : ℕ) (y : A) → length xs ≡ n → P n y
    → ((k : ℕ) (x : A) → slice_get xs k ≡ Some x → P k x) → (k : ℕ) (x : A) → slice_get (xs ++ y ∷ []) k ≡ Some x → P k x
each_pushed {A} P xs n y many here before k x at =
    ⊎_elim (λ (g : k < length xs). before k x (sym (get_front xs y k g) ∙ at))
    (λ (g : length xs ≤ k).
    let end : length xs ≡ k = omega (arith, g, slice_get_within (xs ++ y ∷ []) k x at, length_push xs y) in
    let same : y ≡ x = same_Some y x (sym (get_end xs y) ∙ ap (slice_get (xs ++ y ∷ [])) end ∙ at) in
    subst (P k) same (subst (λ m. P m y) (sym many ∙ end) here))
    (cases_lt k (length xs))
