-- What is in a list.
use Rattle.std.proofs.Common.{◌≡◌, ◌⊎◌, ℕ, zero, suc, Bool, true, false, if◌then◌else◌, List, [], ◌∷◌, ◌++◌, map, Option, Some, None, Contains, option_map, slice_get, refl, ap, ◌∙◌, subst, sym, inl, inr}
use Rattle.std.proofs.lemmas.Option.{same_Some, none-some, slice_get_within, slice_get-get_or, get_or_from_slice_get}

-- it is an item of the list
abbrev pub IsIn : {A : Type 0} → List A → A → Type 0
IsIn [] x = ⊥
IsIn (y ∷ ys) x = (y ≡ x) ⊎ IsIn ys x

-- ---- places

module _ {A : Type 0} where
  pub place_of : (xs : List A) (x : A) → IsIn xs x → (k : ℕ) × (slice_get xs k ≡ Some x)
  place_of [] x at = absurd at
  place_of (y ∷ xs) x (inl e) = (0, ap Some e)
  place_of (y ∷ xs) x (inr at) = let more = place_of xs x at in (suc more.0, more.1)

  pub in_at : (xs : List A) (k : ℕ) (x : A) → slice_get xs k ≡ Some x → IsIn xs x
  in_at [] k x e = absurd (none-some x e)
  in_at (y ∷ xs) zero x e = inl (same_Some y x e)
  in_at (y ∷ xs) (suc k) x e = inr (in_at xs k x e)

  -- as std says it
  pub contained : (xs : List A) (x : A) → IsIn xs x → Contains xs x
  contained xs x at = let of = place_of xs x at in (of.0, slice_get_within xs of.0 x of.1, get_or_from_slice_get xs of.0 x x of.1)

  pub in_contained : (xs : List A) (x : A) → Contains xs x → IsIn xs x
  in_contained xs x at = in_at xs at.0 x (slice_get-get_or xs at.0 x at.1 ∙ ap Some at.2)

  -- ---- lists that follow each other

  pub in_left : (xs ys : List A) (x : A) → IsIn xs x → IsIn (xs ++ ys) x
  in_left [] ys x at = absurd at
  in_left (y ∷ xs) ys x (inl e) = inl e
  in_left (y ∷ xs) ys x (inr at) = inr (in_left xs ys x at)

  pub in_right : (xs ys : List A) (x : A) → IsIn ys x → IsIn (xs ++ ys) x
  in_right [] ys x at = at
  in_right (y ∷ xs) ys x at = inr (in_right xs ys x at)

  -- ---- an item that is kept where a test says so

  abbrev pub kept_if : Bool → A → List A → List A
  kept_if test x xs = if test then x ∷ xs else xs

  pub in_kept : (test : Bool) (x : A) (xs : List A) (y : A) → IsIn (kept_if test x xs) y → ((test ≡ true) × (x ≡ y)) ⊎ IsIn xs y
  in_kept true x xs y (inl e) = inl (refl, e)
  in_kept true x xs y (inr at) = inr at
  in_kept false x xs y at = inr at

  pub kept_first : (test : Bool) (x : A) (xs : List A) (y : A) → test ≡ true → x ≡ y → IsIn (kept_if test x xs) y
  kept_first test x xs y e same = subst (λ t. IsIn (kept_if t x xs) y) (sym e) (inl same)

  pub kept_later : (test : Bool) (x : A) (xs : List A) (y : A) → IsIn xs y → IsIn (kept_if test x xs) y
  kept_later true x xs y at = inr at
  kept_later false x xs y at = at

-- ---- what a function makes

module _ {A B : Type 0} where
  pub in_map : (f : A → B) (xs : List A) (x : A) → IsIn xs x → IsIn (map f xs) (f x)
  in_map f [] x at = absurd at
  in_map f (y ∷ xs) x (inl e) = inl (ap f e)
  in_map f (y ∷ xs) x (inr at) = inr (in_map f xs x at)

  pub of_option : (f : A → B) (o : Option A) (y : B) → option_map f o ≡ Some y → (x : A) × (o ≡ Some x) × (f x ≡ y)
  of_option f None y e = absurd (none-some y e)
  of_option f (Some x) y e = (x, refl, same_Some (f x) y e)
