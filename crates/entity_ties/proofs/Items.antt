-- Items at places of lists that grow or change.
use Rattle.std.proofs.Common.{◌≡◌, ◌≢◌, ◌<◌, ◌≤◌, ◌⊎◌, ◌∙◌, ◌+◌, ◌++◌, ℕ, zero, suc, List, [], ◌∷◌, Contains, Some, length, get_or, slice_get, slice_set, take, refl, sym, ap, subst, inl, inr, ⊎_elim, arith, get_or-set_other, get_or-set_same, length-append}
use Rattle.std.proofs.lemmas.Bool.{cases_lt}
use Rattle.std.proofs.lemmas.List.{length-set, take_more}
use Rattle.std.proofs.lemmas.List.Elements.{Contains-push_cases, Contains-append_left, Contains-push}
use Rattle.std.proofs.lemmas.Option.{same_Some, none-some, get_or_from_slice_get, slice_get-get_or, slice_get_within, slice_get_past}
use Rattle.part_laws.proofs.Rows.{there}

-- ---- one item more

pub at_old : {A : Type 0} (xs ys : List A) (i : ℕ) → i < length xs → slice_get (xs ++ ys) i ≡ slice_get xs i
at_old [] ys i h = absurd (omega arith)
at_old (x ∷ xs) ys zero h = refl
at_old (x ∷ xs) ys (suc i) h = at_old xs ys i (omega arith)

pub at_end : {A : Type 0} (xs : List A) (x : A) (i : ℕ) → i ≡ length xs → slice_get (xs ++ x ∷ []) i ≡ Some x
at_end [] x zero h = refl
at_end [] x (suc i) h = absurd (omega arith)
at_end (y ∷ xs) x zero h = absurd (omega arith)
at_end (y ∷ xs) x (suc i) h = at_end xs x i (omega arith)

-- what stands in a list with one item more stood there, or is that item
pub pushed : {A : Type 0} (xs : List A) (x : A) (i : ℕ) (y : A) → slice_get (xs ++ x ∷ []) i ≡ Some y
    → ((i < length xs) × (slice_get xs i ≡ Some y)) ⊎ ((i ≡ length xs) × (x ≡ y))
pushed [] x zero y at = inr (refl, same_Some x y at)
pushed [] x (suc i) y at = absurd (none-some y at)
pushed (z ∷ xs) x zero y at = inl (omega arith, at)
pushed (z ∷ xs) x (suc i) y at = ⊎_elim (λ p. inl (omega (arith, p.0), p.1)) (λ p. inr (omega (arith, p.0), p.1))
    (pushed xs x i y at)

pub length_push : {A : Type 0} (xs : List A) (x : A) → length (xs ++ x ∷ []) ≡ length xs + 1
length_push xs x = length-append xs (x ∷ []) ∙ omega arith

-- ---- an item in the place of another

pub at_set : {A : Type 0} (xs : List A) (i : ℕ) (y : A) → i < length xs → slice_get (slice_set xs i y) i ≡ Some y
at_set xs i y h =
    let room : i < length (slice_set xs i y) = omega (arith, length-set xs i y) in
    slice_get-get_or (slice_set xs i y) i y room ∙ ap Some (get_or-set_same xs i y y h)

pub at_other : {A : Type 0} (xs : List A) (i j : ℕ) (y : A) → j ≢ i → slice_get (slice_set xs i y) j ≡ slice_get xs j
at_other xs i j y apart =
    ⊎_elim
    (λ (below : j < length xs).
    let room : j < length (slice_set xs i y) = omega (arith, length-set xs i y) in
    let found = there xs j below in
    slice_get-get_or (slice_set xs i y) j found.0 room
    ∙ (ap Some (get_or-set_other xs i j y found.0 apart) ∙ sym (slice_get-get_or xs j found.0 below)))
    (λ (past : length xs ≤ j).
    let also : length (slice_set xs i y) ≤ j = omega (arith, length-set xs i y) in
    slice_get_past (slice_set xs i y) j also ∙ sym (slice_get_past xs j past))
    (cases_lt j (length xs))

-- ---- the first items

-- one of the first items that is one more is one of the first, or that one
pub taken : {A : Type 0} (xs : List A) (i : ℕ) (x y : A) → slice_get xs i ≡ Some x → Contains (take (i + 1) xs) y
    → Contains (take i xs) y ⊎ (x ≡ y)
taken xs i x y at c =
    let more : take (i + 1) xs ≡ take i xs ++ x ∷ [] =
    take_more xs i x (slice_get_within xs i x at) ∙ ap (λ z. take i xs ++ z ∷ []) (get_or_from_slice_get xs i x x at) in
    Contains-push_cases (take i xs) x y (subst (λ l. Contains l y) more c)

pub still_taken : {A : Type 0} (xs : List A) (i : ℕ) (y : A) → i < length xs → Contains (take i xs) y
    → Contains (take (i + 1) xs) y
still_taken xs i y below c =
    let x = there xs i below in
    subst (λ l. Contains l y) (sym (take_more xs i x.0 below)) (Contains-append_left (take i xs) (get_or xs i x.0 ∷ []) y c)

pub just_taken : {A : Type 0} (xs : List A) (i : ℕ) (x : A) → slice_get xs i ≡ Some x → Contains (take (i + 1) xs) x
just_taken xs i x at =
    let more : take (i + 1) xs ≡ take i xs ++ x ∷ [] =
    take_more xs i x (slice_get_within xs i x at) ∙ ap (λ z. take i xs ++ z ∷ []) (get_or_from_slice_get xs i x x at) in
    subst (λ l. Contains l x) (sym more) (Contains-push (take i xs) x)

pub none_taken : {A : Type 0} (xs : List A) (y : A) → Contains (take 0 xs) y → ⊥
none_taken [] y c = omega (arith, c.1)
none_taken (x ∷ xs) y c = omega (arith, c.1)
