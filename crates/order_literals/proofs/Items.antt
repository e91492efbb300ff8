-- What is in a list that is made of others.
use Rattle.std.proofs.Common.{◌≡◌, ◌⊎◌, ◌+◌, ◌<◌, ◌≤◌, ℕ, zero, suc, Bool, true, false, if◌then◌else◌, List, [], ◌∷◌, ◌++◌, map, flat_map, Some, Contains, slice_get, refl, sym, ap, ◌∙◌, subst, inl, inr, ⊎_elim, eq-or-lt_of_le, arith}
use Rattle.std.specs.List.{range_with_len, AllByRecursion}
use Rattle.std.proofs.lemmas.Option.{same_Some, none-some, slice_get_within, slice_get-get_or, get_or_from_slice_get}

-- it is an item of the list
abbrev pub IsIn : {A : Type 0} → List A → A → Type 0
IsIn [] x = ⊥
IsIn (y ∷ ys) x = (y ≡ x) ⊎ IsIn ys x

-- ---- places

module _ {A : Type 0} where
  pub place_of : (xs : List A) (x : A) → IsIn xs x → (k : ℕ) × (slice_get xs k ≡ Some x)
  place_of [] x at = absurd at
  place_of (y ∷ xs) x (inl e) = (0, ap Some e)
  place_of (y ∷ xs) x (inr at) = let more = place_of xs x at in (suc more.0, more.1)

  pub in_at : (xs : List A) (k : ℕ) (x : A) → slice_get xs k ≡ Some x → IsIn xs x
  in_at [] k x e = absurd (none-some x e)
  in_at (y ∷ xs) zero x e = inl (same_Some y x e)
  in_at (y ∷ xs) (suc k) x e = inr (in_at xs k x e)

  -- as std says it
  pub contained : (xs : List A) (x : A) → IsIn xs x → Contains xs x
  contained xs x at = let of = place_of xs x at in (of.0, slice_get_within xs of.0 x of.1, get_or_from_slice_get xs of.0 x x of.1)

  pub in_contained : (xs : List A) (x : A) → Contains xs x → IsIn xs x
  in_contained xs x at = in_at xs at.0 x (slice_get-get_or xs at.0 x at.1 ∙ ap Some at.2)

  -- what holds of each item
  pub all_from : (P : A → Type 0) (xs : List A) → ((x : A) → IsIn xs x → P x) → AllByRecursion P xs
  all_from P [] each = tt
  all_from P (y ∷ xs) each = (each y (inl refl), all_from P xs (λ x at. each x (inr at)))

  -- ---- lists that follow each other

  pub in_left : (xs ys : List A) (x : A) → IsIn xs x → IsIn (xs ++ ys) x
  in_left [] ys x at = absurd at
  in_left (y ∷ xs) ys x (inl e) = inl e
  in_left (y ∷ xs) ys x (inr at) = inr (in_left xs ys x at)

  pub in_right : (xs ys : List A) (x : A) → IsIn ys x → IsIn (xs ++ ys) x
  in_right [] ys x at = at
  in_right (y ∷ xs) ys x at = inr (in_right xs ys x at)

  pub in_either : (xs ys : List A) (x : A) → IsIn (xs ++ ys) x → IsIn xs x ⊎ IsIn ys x
  in_either [] ys x at = inr at
  in_either (y ∷ xs) ys x (inl e) = inl (inl e)
  in_either (y ∷ xs) ys x (inr at) = ⊎_elim (λ l. inl (inr l)) (λ r. inr r) (in_either xs ys x at)

  -- ---- an item that is kept where a test says so

  abbrev pub kept : Bool → A → List A → List A
  kept test x xs = if test then x ∷ xs else xs

  pub in_kept : (test : Bool) (x : A) (xs : List A) (y : A) → IsIn (kept test x xs) y → ((test ≡ true) × (x ≡ y)) ⊎ IsIn xs y
  in_kept true x xs y (inl e) = inl (refl, e)
  in_kept true x xs y (inr at) = inr at
  in_kept false x xs y at = inr at

  pub kept_first : (test : Bool) (x : A) (xs : List A) → test ≡ true → IsIn (kept test x xs) x
  kept_first test x xs e = subst (λ t. IsIn (kept t x xs) x) (sym e) (inl refl)

  pub kept_later : (test : Bool) (x : A) (xs : List A) (y : A) → IsIn xs y → IsIn (kept test x xs) y
  kept_later true x xs y at = inr at
  kept_later false x xs y at = at

-- ---- what a function makes of each

module _ {A B : Type 0} where
  pub in_map : (f : A → B) (xs : List A) (x : A) → IsIn xs x → IsIn (map f xs) (f x)
  in_map f [] x at = absurd at
  in_map f (y ∷ xs) x (inl e) = inl (ap f e)
  in_map f (y ∷ xs) x (inr at) = inr (in_map f xs x at)

  pub from_map : (f : A → B) (xs : List A) (y : B) → IsIn (map f xs) y → (x : A) × IsIn xs x × (f x ≡ y)
  from_map f [] y at = absurd at
  from_map f (x ∷ xs) y (inl e) = (x, inl refl, e)
  from_map f (x ∷ xs) y (inr at) = let more = from_map f xs y at in (more.0, inr more.1, more.2)

  pub in_flat_map : (f : A → List B) (xs : List A) (x : A) (y : B) → IsIn xs x → IsIn (f x) y → IsIn (flat_map f xs) y
  in_flat_map f [] x y at of = absurd at
  in_flat_map f (z ∷ xs) x y (inl e) of = in_left (f z) (flat_map f xs) y (subst (λ w. IsIn (f w) y) (sym e) of)
  in_flat_map f (z ∷ xs) x y (inr at) of = in_right (f z) (flat_map f xs) y (in_flat_map f xs x y at of)

  pub from_flat_map : (f : A → List B) (xs : List A) (y : B) → IsIn (flat_map f xs) y → (x : A) × IsIn xs x × IsIn (f x) y
  from_flat_map f [] y at = absurd at
  from_flat_map f (x ∷ xs) y at = by (from_flat_map f xs y) (in_either (f x) (flat_map f xs) y at)
    where
      by : (IsIn (flat_map f xs) y → (z : A) × IsIn xs z × IsIn (f z) y) → IsIn (f x) y ⊎ IsIn (flat_map f xs) y
          → (z : A) × IsIn (x ∷ xs) z × IsIn (f z) y
      by more (inl here) = (x, inl refl, here)
      by more (inr there) = let found = more there in (found.0, inr found.1, found.2)

-- ---- numbers in turn

pub in_range : (a n x : ℕ) → IsIn (range_with_len a n) x → (a ≤ x) × (x < a + n)
in_range a zero x at = absurd at
in_range a (suc n) x (inl e) = (omega (arith, e), omega (arith, e))
in_range a (suc n) x (inr at) = let more = in_range (a + 1) n x at in (omega (arith, more.0), omega (arith, more.1))

pub range_in : (a n x : ℕ) → a ≤ x → x < a + n → IsIn (range_with_len a n) x
range_in a zero x low high = absurd (omega arith)
range_in a (suc n) x low high = ⊎_elim
    (λ (e : a ≡ x). inl e)
    (λ (more : a < x). inr (range_in (a + 1) n x (omega arith) (omega arith)))
    (eq-or-lt_of_le low)
