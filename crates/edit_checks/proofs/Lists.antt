-- Lists, place by place.
use Rattle.std.proofs.Common.{◌≡◌, ◌≢◌, ◌∙◌, ◌+◌, ◌<◌, ℕ, List, All, Some, get_or, length, length-set, slice_get, slice_set, refl, sym, ap, subst, ⊎_elim, arith, get_or-set_other, get_or-set_same}
use Rattle.std.proofs.lemmas.Bool.{cases_eq}
use Rattle.std.proofs.lemmas.Option.{get_or_from_slice_get, same_Some, slice_get-get_or, slice_get_read, slice_get_within}

-- what holds of the item at each place holds of all
pub each_has : {A : Type 0} (P : A → Type 0) (xs : List A) → ((k : ℕ) (x : A) → slice_get xs k ≡ Some x → P x) → All P xs
each_has P xs has k d below = has k (get_or xs k d) (slice_get-get_or xs k d below)

-- what holds of all holds of the item at a place
pub item_has : {A : Type 0} (P : A → Type 0) (xs : List A) → All P xs → (k : ℕ) (x : A) → slice_get xs k ≡ Some x → P x
item_has P xs all k x at = subst P (get_or_from_slice_get xs k x x at) (all k x (slice_get_within xs k x at))

-- what stands at a place of a list after a write, at that place and at another
pub written_here : {A : Type 0} (xs : List A) (i : ℕ) (y x : A) → slice_get (slice_set xs i y) i ≡ Some x → y ≡ x
written_here xs i y x at =
    let within = subst (λ (n : ℕ). i < n) (length-set xs i y) (slice_get_within (slice_set xs i y) i x at) in
    sym (get_or-set_same xs i y x within)
    ∙ get_or_from_slice_get (slice_set xs i y) i x x at

pub written_there : {A : Type 0} (xs : List A) (i j : ℕ) (y x : A) → j ≢ i → slice_get (slice_set xs i y) j ≡ Some x
    → slice_get xs j ≡ Some x
written_there xs i j y x apart at =
    let within = subst (λ (n : ℕ). j < n) (length-set xs i y) (slice_get_within (slice_set xs i y) j x at) in
    slice_get-get_or xs j x within
    ∙ ap Some (sym (get_or-set_other xs i j y x apart) ∙ get_or_from_slice_get (slice_set xs i y) j x x at)

-- what holds of the items before a place, and of the one there
pub before_more : {A : Type 0} (P : A → Type 0) (xs : List A) (n : ℕ) (x : A) → slice_get xs n ≡ Some x → P x
    → ((k : ℕ) (y : A) → k < n → slice_get xs k ≡ Some y → P y) → (k : ℕ) (y : A) → k < n + 1 → slice_get xs k ≡ Some y → P y
before_more P xs n x at here before k y below at' =
    ⊎_elim
    (λ (is : k ≡ n). subst P (same_Some x y (sym at ∙ (sym (ap (slice_get xs) is) ∙ at'))) here)
    (λ (apart : k ≡ n → ⊥). before k y (omega arith) at')
    (cases_eq k n)

-- the item that is read at a place of a list where there is one
pub read_there : {A : Type 0} (xs seen : List A) (n m : ℕ) (x y : A) → seen ≡ xs → m ≡ n → x ≡ get_or seen m x
    → slice_get xs n ≡ Some y → slice_get xs n ≡ Some x
read_there {A} xs seen n m x y same one read at =
    let here : x ≡ get_or xs n x =
    subst (λ (k : ℕ). x ≡ get_or xs k x) one (subst (λ (l : List A). x ≡ get_or l m x) same read) in
    slice_get_read xs (length xs) n x refl (slice_get_within xs n y at) here
