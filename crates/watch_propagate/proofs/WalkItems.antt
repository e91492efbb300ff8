-- Lists where items are put, and lists of watchers with one more and with one less.
use Rattle.std.proofs.Common.{◌≡◌, ◌≢◌, ◌⊎◌, ◌<◌, ◌∙◌, ℕ, zero, suc, List, [], ◌∷◌, Some, All, Contains, length, take, drop, slice_get, slice_set, refl, sym, ap, subst, inl, inr, arith}
use Rattle.std.proofs.lemmas.Bool.{cases_eq}
use Rattle.std.proofs.lemmas.List.{length-set, get_or-set_same, get_or-set_other, take-append-drop}
use Rattle.std.proofs.lemmas.List.Elements.{Contains-append_left}
use Rattle.std.proofs.lemmas.Option.{slice_get_within, get_or_from_slice_get}
use Rattle.watch_links.specs.Links.{IsIn, list_of, lists_with, lists_without, without}
use Rattle.watch_links.proofs.SlotLists.{in_without, stays_in_without}
use Rattle.watch_propagate.proofs.WalkLits.{contains_at, place_in}

-- ---- items

pub get_same : {A : Type 0} (xs : List A) (i : ℕ) (y : A) → i < length xs → slice_get (slice_set xs i y) i ≡ Some y
get_same [] i y h = absurd (omega arith)
get_same (x ∷ xs) zero y h = refl
get_same (x ∷ xs) (suc i) y h = get_same xs i y (omega arith)

pub get_other : {A : Type 0} (xs : List A) (i j : ℕ) (y : A) → j ≢ i → slice_get (slice_set xs i y) j ≡ slice_get xs j
get_other [] i j y d = refl
get_other (x ∷ xs) zero zero y d = absurd (d refl)
get_other (x ∷ xs) zero (suc j) y d = refl
get_other (x ∷ xs) (suc i) zero y d = refl
get_other (x ∷ xs) (suc i) (suc j) y d = get_other xs i j y (λ e. d (ap suc e))

-- what holds of all items holds of one
pub all_at : {A : Type 0} (P : A → Type 0) (xs : List A) (i : ℕ) (x : A) → All P xs → slice_get xs i ≡ Some x → P x
all_at P xs i x all is = subst P (get_or_from_slice_get xs i x x is) (all i x (slice_get_within xs i x is))

-- the first items are items
pub taken_in : {A : Type 0} (n : ℕ) (xs : List A) (x : A) → Contains (take n xs) x → Contains xs x
taken_in n xs x c = subst (λ ys. Contains ys x) (take-append-drop n xs) (Contains-append_left (take n xs) (drop n xs) x c)

-- two items change places
module _ {A : Type 0} (xs : List A) (from to : ℕ) (left taken : A) (is_left : slice_get xs from ≡ Some left)
    (is_taken : slice_get xs to ≡ Some taken)
    (differ : from ≢ to) where
  abbrev swapped : List A
  swapped = slice_set (slice_set xs from taken) to left

  pub swap_from : slice_get swapped from ≡ Some taken
  swap_from = get_other (slice_set xs from taken) to from left differ ∙ get_same xs from taken
      (slice_get_within xs from left is_left)

  pub swap_to : slice_get swapped to ≡ Some left
  swap_to =
      let within : to < length (slice_set xs from taken) = omega (
        arith,
        slice_get_within xs to taken is_taken,
        length-set xs from taken,
      ) in
      get_same (slice_set xs from taken) to left within

  pub swap_other : (i : ℕ) → i ≢ from → i ≢ to → slice_get swapped i ≡ slice_get xs i
  swap_other i a b = get_other (slice_set xs from taken) to i left b ∙ get_other xs from i taken a

  pub swap_length : length swapped ≡ length xs
  swap_length = length-set (slice_set xs from taken) to left ∙ length-set xs from taken

  -- no item is lost
  pub swap_keeps : (x : A) → Contains xs x → Contains swapped x
  swap_keeps x c = let at = place_in xs x c in go at.0 at.1 (cases_eq at.0 from) (cases_eq at.0 to)
    where
      go : (k : ℕ) → slice_get xs k ≡ Some x → (k ≡ from) ⊎ (k ≢ from) → (k ≡ to) ⊎ (k ≢ to) → Contains swapped x
      go k is (inl e) other = contains_at swapped to x (swap_to ∙ sym is_left ∙ ap (slice_get xs) (sym e) ∙ is)
      go k is (inr d) (inl e) = contains_at swapped from x (swap_from ∙ sym is_taken ∙ ap (slice_get xs) (sym e) ∙ is)
      go k is (inr d) (inr d') = contains_at swapped k x (swap_other k d d' ∙ is)

  -- and none is new
  pub swap_adds_none : (x : A) → Contains swapped x → Contains xs x
  swap_adds_none x c = let at = place_in swapped x c in go at.0 at.1 (cases_eq at.0 from) (cases_eq at.0 to)
    where
      go : (k : ℕ) → slice_get swapped k ≡ Some x → (k ≡ from) ⊎ (k ≢ from) → (k ≡ to) ⊎ (k ≢ to) → Contains xs x
      go k is (inl e) other = contains_at xs to x (is_taken ∙ sym swap_from ∙ ap (slice_get swapped) (sym e) ∙ is)
      go k is (inr d) (inl e) = contains_at xs from x (is_left ∙ sym swap_to ∙ ap (slice_get swapped) (sym e) ∙ is)
      go k is (inr d) (inr d') = contains_at xs k x (sym (swap_other k d d') ∙ is)

-- ---- lists of watchers

pub with_other : (lists : List (List ℕ)) (p s q : ℕ) → q ≢ p → list_of (lists_with lists p s) q ≡ list_of lists q
with_other lists p s q d = get_or-set_other lists p q (s ∷ list_of lists p) [] d

with_same : (lists : List (List ℕ)) (p s : ℕ) → p < length lists → list_of (lists_with lists p s) p ≡ s ∷ list_of lists p
with_same lists p s h = get_or-set_same lists p (s ∷ list_of lists p) [] h

pub here_in_with : (lists : List (List ℕ)) (p s : ℕ) → p < length lists → IsIn s (list_of (lists_with lists p s) p)
here_in_with lists p s h = rw (with_same lists p s h) (inl refl)

pub stays_in_with : (lists : List (List ℕ)) (p s q y : ℕ) → p < length lists → IsIn y (list_of lists q)
    → IsIn y (list_of (lists_with lists p s) q)
stays_in_with lists p s q y h i = go (cases_eq q p)
  where
    go : (q ≡ p) ⊎ (q ≢ p) → IsIn y (list_of (lists_with lists p s) q)
    go (inl e) =
        let there : IsIn y (list_of lists p) = subst (λ k. IsIn y (list_of lists k)) e i in
        let put : IsIn y (list_of (lists_with lists p s) p) = rw (with_same lists p s h) (inr there) in
        subst (λ k. IsIn y (list_of (lists_with lists p s) k)) (sym e) put
    go (inr d) = subst (IsIn y) (sym (with_other lists p s q d)) i

pub in_with : (lists : List (List ℕ)) (p s q y : ℕ) → p < length lists → IsIn y (list_of (lists_with lists p s) q) →
    (y ≡ s) ⊎ IsIn y (list_of lists q)
in_with lists p s q y h i = go (cases_eq q p)
  where
    go : (q ≡ p) ⊎ (q ≢ p) → (y ≡ s) ⊎ IsIn y (list_of lists q)
    go (inl e) =
        let there : IsIn y (list_of (lists_with lists p s) p) = subst (λ k. IsIn y (list_of (lists_with lists p s) k)) e i in
        subst (λ k. (y ≡ s) ⊎ IsIn y (list_of lists k)) (sym e) (subst (IsIn y) (with_same lists p s h) there)
    go (inr d) = inr (subst (IsIn y) (with_other lists p s q d) i)

pub without_same : (lists : List (List ℕ)) (p s : ℕ) → p < length lists → list_of (lists_without lists p s) p ≡
    without s (list_of lists p)
without_same lists p s h = get_or-set_same lists p (without s (list_of lists p)) [] h

pub without_other : (lists : List (List ℕ)) (p s q : ℕ) → q ≢ p → list_of (lists_without lists p s) q ≡ list_of lists q
without_other lists p s q d = get_or-set_other lists p q (without s (list_of lists p)) [] d

pub in_lists_without : (lists : List (List ℕ)) (p s q y : ℕ) → p < length lists
    → IsIn y (list_of (lists_without lists p s) q) → IsIn y (list_of lists q)
in_lists_without lists p s q y h i = go (cases_eq q p)
  where
    go : (q ≡ p) ⊎ (q ≢ p) → IsIn y (list_of lists q)
    go (inl e) =
        let there : IsIn y (list_of (lists_without lists p s) p) =
        subst (λ k. IsIn y (list_of (lists_without lists p s) k)) e i in
        subst (λ k. IsIn y (list_of lists k)) (sym e)
        (in_without s y (list_of lists p) (subst (IsIn y) (without_same lists p s h) there))
    go (inr d) = subst (IsIn y) (without_other lists p s q d) i

pub stays_in_lists_without : (lists : List (List ℕ)) (p s q y : ℕ) → p < length lists → y ≢ s
    → IsIn y (list_of lists q) → IsIn y (list_of (lists_without lists p s) q)
stays_in_lists_without lists p s q y h differ i = go (cases_eq q p)
  where
    go : (q ≡ p) ⊎ (q ≢ p) → IsIn y (list_of (lists_without lists p s) q)
    go (inl e) =
        let there : IsIn y (list_of lists p) = subst (λ k. IsIn y (list_of lists k)) e i in
        let stays : IsIn y (list_of (lists_without lists p s) p) = subst (IsIn y) (sym (without_same lists p s h))
        (stays_in_without s y (list_of lists p) there differ) in
        subst (λ k. IsIn y (list_of (lists_without lists p s) k)) (sym e) stays
    go (inr d) = subst (IsIn y) (sym (without_other lists p s q d)) i
