-- Lists, one item after another.
use Rattle.std.proofs.Common.{◌≡◌, ◌⊎◌, inl, inr, ◌+◌, ◌<◌, ◌≤◌, ℕ, zero, suc, List, [], ◌∷◌, ◌++◌, All, Some, take, length, get_or, map, slice_get, refl, sym, ap, ◌∙◌, subst, arith}
use Rattle.std.proofs.lemmas.List.{append_assoc, map-append, take_all, take_more}
use Rattle.std.proofs.lemmas.Grind.{flat_map-append}
use Rattle.std.specs.List.{flat_map}
use Rattle.std.proofs.lemmas.List.Elements.{All-push}
use Rattle.std.proofs.lemmas.Option.{get_or_from_slice_get, same_Some, slice_get-get_or, slice_get_within}

pub item_at : {A : Type 0} (xs : List A) (i : ℕ) → i < length xs → (x : A) × (slice_get xs i ≡ Some x)
item_at [] i below = absurd (omega (arith, below))
item_at (x ∷ xs) zero below = (x, refl)
item_at (x ∷ xs) (suc i) below = item_at xs i (omega (arith, below))

pub all_at : {A : Type 0} (P : A → Type 0) (xs : List A) (i : ℕ) (x : A) → All P xs → slice_get xs i ≡ Some x → P x
all_at P xs i x all at = subst P (get_or_from_slice_get xs i x x at) (all i x (slice_get_within xs i x at))

pub all_from : {A : Type 0} (P : A → Type 0) (xs : List A) → ((i : ℕ) (x : A) → slice_get xs i ≡ Some x → P x) → All P xs
all_from P xs each i d below = each i (get_or xs i d) (slice_get-get_or xs i d below)

next_taken : {A : Type 0} (xs : List A) (k : ℕ) (x : A) → slice_get xs k ≡ Some x → take (k + 1) xs ≡ take k xs ++ x ∷ []
next_taken xs k x at = take_more xs k x (slice_get_within xs k x at) ∙ ap (λ y. take k xs ++ y ∷ [])
    (get_or_from_slice_get xs k x x at)

pub append_none : {A : Type 0} (xs : List A) → xs ++ [] ≡ xs
append_none [] = refl
append_none (x ∷ xs) = ap (λ ys. x ∷ ys) (append_none xs)

-- what holds of the items so far and of the next
pub all_more : {A : Type 0} (P : A → Type 0) (xs : List A) (k : ℕ) (x : A) → slice_get xs k ≡ Some x → All P (take k xs) → P x
    → All P (take (k + 1) xs)
all_more P xs k x at all here =
    subst (All P) (sym (next_taken xs k x at))
    (All-push P (take k xs) x all here)

-- and of all in the end
pub all_taken : {A : Type 0} (P : A → Type 0) (xs : List A) (k : ℕ) → length xs ≤ k → All P (take k xs) → All P xs
all_taken P xs k past all = subst (All P) (take_all k xs past) all

-- with one item more, an item stood there before, or is that one
pub at_push : {A : Type 0} (xs : List A) (y : A) (i : ℕ) (x : A) → slice_get (xs ++ y ∷ []) i ≡ Some x
    → (slice_get xs i ≡ Some x) ⊎ ((i ≡ length xs) × (y ≡ x))
at_push [] y zero x is = inr (refl, same_Some y x is)
at_push [] y (suc i) x is = let no : ⊥ = cc in absurd no
at_push (z ∷ xs) y zero x is = inl is
at_push (z ∷ xs) y (suc i) x is = step (at_push xs y i x is)
  where
    step : (slice_get xs i ≡ Some x) ⊎ ((i ≡ length xs) × (y ≡ x)) → (slice_get xs i ≡ Some x) ⊎
        ((suc i ≡ suc (length xs)) × (y ≡ x))
    step (inl h) = inl h
    step (inr h) = inr (ap suc h.0, h.1)

-- what is mapped of the items so far and of the next
pub map_more : {A B : Type 0} (f : A → B) (xs : List A) (k : ℕ) (x : A) (start old new : List B) → slice_get xs k ≡ Some x
    → old ≡ start ++ map f (take k xs) → new ≡ old ++ f x ∷ [] → new ≡ start ++ map f (take (k + 1) xs)
map_more f xs k x start old new at was push =
    push ∙ ap (λ ys. ys ++ f x ∷ []) was ∙ append_assoc start (map f (take k xs)) (f x ∷ [])
    ∙ ap (λ ys. start ++ ys) (sym (map-append f (take k xs) (x ∷ []))) ∙ ap (λ ys. start ++ map f ys) (sym (next_taken xs k x at))

pub map_taken : {A B : Type 0} (f : A → B) (xs : List A) (k : ℕ) (start new : List B) → length xs ≤ k → new ≡ start
    ++ map f (take k xs)
    → new ≡ start ++ map f xs
map_taken f xs k start new past is = is ∙ ap (λ ys. start ++ map f ys) (take_all k xs past)

-- the same of lists
pub flat_more : {A B : Type 0} (f : A → List B) (xs : List A) (k : ℕ) (x : A) (old new : List B) → slice_get xs k ≡ Some x
    → old ≡ flat_map f (take k xs) → new ≡ old ++ f x → new ≡ flat_map f (take (k + 1) xs)
flat_more f xs k x old new at was push =
    push ∙ ap (λ ys. ys ++ f x) was ∙ ap (λ ys. flat_map f (take k xs) ++ ys) (sym (append_none (f x)))
    ∙ sym (flat_map-append f (take k xs) (x ∷ [])) ∙ ap (flat_map f) (sym (next_taken xs k x at))

pub flat_taken : {A B : Type 0} (f : A → List B) (xs : List A) (k : ℕ) (new : List B) → length xs ≤ k
    → new ≡ flat_map f (take k xs)
    → new ≡ flat_map f xs
flat_taken f xs k new past is = is ∙ ap (flat_map f) (take_all k xs past)
