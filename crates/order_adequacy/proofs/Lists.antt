-- Members of lists.
use Rattle.std.proofs.Common.{◌≡◌, ◌⊎◌, ◌∙◌, ℕ, zero, suc, Bool, true, List, [], ◌∷◌, Contains, Some, map, filter, slice_get, refl, sym, ap, subst, inl, inr, arith}
use Rattle.std.proofs.lemmas.Option.{get_or_from_slice_get, slice_get-get_or, slice_get_within}
use Rattle.order_literals.proofs.Items.{IsIn, contained, in_contained, in_kept, kept_first, kept_later, in_map, from_map}

-- ---- members and their places

pub place_of : {A : Type 0} (xs : List A) (x : A) → Contains xs x → (i : ℕ) × (slice_get xs i ≡ Some x)
place_of xs x c = (c.0, slice_get-get_or xs c.0 x c.1 ∙ ap Some c.2)

pub at_place : {A : Type 0} (xs : List A) (i : ℕ) (x : A) → slice_get xs i ≡ Some x → Contains xs x
at_place xs i x at = (i, slice_get_within xs i x at, get_or_from_slice_get xs i x x at)

pub here : {A : Type 0} (x : A) (xs : List A) → Contains (x ∷ xs) x
here x xs = (0, omega arith, refl)

pub there : {A : Type 0} (x y : A) (xs : List A) → Contains xs y → Contains (x ∷ xs) y
there x y xs at = (suc at.0, omega (arith, at.1), at.2)

pub front_or_later : {A : Type 0} (x y : A) (xs : List A) → Contains (x ∷ xs) y → (x ≡ y) ⊎ Contains xs y
front_or_later x y xs (zero, below, e) = inl e
front_or_later x y xs (suc i, below, e) = inr (i, omega (arith, below), e)

-- ---- members of a filtered list

pass : {A : Type 0} (test : A → Bool) (xs : List A) (x : A) → IsIn xs x → test x ≡ true → IsIn (filter test xs) x
pass test [] x at passes = absurd at
pass test (y ∷ xs) x (inl e) passes =
    subst (IsIn (filter test (y ∷ xs))) e (kept_first (test y) y (filter test xs) (ap test e ∙ passes))
pass test (y ∷ xs) x (inr at) passes = kept_later (test y) y (filter test xs) x (pass test xs x at passes)

pub passed_in : {A : Type 0} (test : A → Bool) (xs : List A) (x : A) → Contains xs x → test x ≡ true → Contains (filter test xs) x
passed_in test xs x at passes = contained (filter test xs) x (pass test xs x (in_contained xs x at) passes)

passes : {A : Type 0} (test : A → Bool) (xs : List A) (x : A) → IsIn (filter test xs) x → IsIn xs x × (test x ≡ true)
passes test [] x at = absurd at
passes {A} test (y ∷ xs) x at = by (in_kept (test y) y (filter test xs) x at) (passes test xs x)
  where
    by : ((test y ≡ true) × (y ≡ x)) ⊎ IsIn (filter test xs) x → (IsIn (filter test xs) x → IsIn xs x × (test x ≡ true))
        → IsIn (y ∷ xs) x × (test x ≡ true)
    by (inl here) more = (inl here.1, sym (ap test here.1) ∙ here.0)
    by (inr later) more = let rest = more later in (inr rest.0, rest.1)

pub in_passed : {A : Type 0} (test : A → Bool) (xs : List A) (x : A) → Contains (filter test xs) x → Contains xs x ×
    (test x ≡ true)
in_passed test xs x at = let both = passes test xs x (in_contained (filter test xs) x at) in (contained xs x both.0, both.1)

-- ---- members of a mapped list

pub mapped_in : {A B : Type 0} (f : A → B) (xs : List A) (x : A) → Contains xs x → Contains (map f xs) (f x)
mapped_in f xs x at = contained (map f xs) (f x) (in_map f xs x (in_contained xs x at))

pub in_mapped : {A B : Type 0} (f : A → B) (xs : List A) (y : B) → Contains (map f xs) y → (x : A) × Contains xs x × (f x ≡ y)
in_mapped f xs y at = let from = from_map f xs y (in_contained (map f xs) y at) in (from.0, contained xs from.0 from.1, from.2)
