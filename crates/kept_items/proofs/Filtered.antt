-- Items that are marked.
use Rattle.std.proofs.Common.{◌≡◌, ◌∙◌, ◌+◌, ◌≤◌, ℕ, zero, suc, Bool, true, false, if◌then◌else◌, List, [], ◌∷◌, ◌++◌, All, Some, length, map, slice_get, refl, sym, ap, arith}
use Rattle.std.proofs.lemmas.List.Elements.{All-nil, All-cons, All-head, All-tail}
use Rattle.std.proofs.lemmas.Option.{none-some}
use Rattle.currency_base.specs.Lists.{OnlyOnce}
use Rattle.kept_items.specs.Marked.{is_marked}
use Rattle.kept_items.specs.Steps.{marked}

-- an item that is put before others where a test says so
abbrev pub put_if : {A : Type 0} → Bool → A → List A → List A
put_if test x xs = if test then x ∷ xs else xs

-- ---- one item more

put_both : {A : Type 0} (test : Bool) (x : A) (new xs ys : List A) → new ≡ xs ++ ys → put_if test x new ≡ put_if test x xs ++ ys
put_both {A} true x new xs ys e = ap (λ (l : List A). x ∷ l) e
put_both false x new xs ys e = e

pub marked_push : {A : Type 0} (marks : List Bool) (at : ℕ) (xs : List A) (x : A)
    → marked marks at (xs ++ x ∷ []) ≡ marked marks at xs ++ marked marks (at + length xs) (x ∷ [])
marked_push {A} marks at [] x = let same : at ≡ at + 0 = omega arith in ap (λ n. marked marks n (x ∷ [])) same
marked_push {A} marks at (y ∷ xs) x =
    let same : (at + 1) + length xs ≡ at + suc (length xs) = omega arith in
    put_both (is_marked marks at) y (marked marks (at + 1) (xs ++ x ∷ [])) (marked marks (at + 1) xs)
    (marked marks (at + suc (length xs)) (x ∷ []))
    (marked_push marks (at + 1) xs x ∙ ap (λ n. marked marks (at + 1) xs ++ marked marks n (x ∷ [])) same)

-- ---- what all items have, the marked ones have

put_all : {A : Type 0} (P : A → Type 0) (test : Bool) (x : A) (xs : List A) → P x → All P xs → All P (put_if test x xs)
put_all P true x xs one all = All-cons P x xs one all
put_all P false x xs one all = all

pub marked_all : {A : Type 0} (P : A → Type 0) (marks : List Bool) (at : ℕ) (xs : List A) → All P xs → All P (marked marks at xs)
marked_all P marks at [] all = All-nil P
marked_all P marks at (x ∷ xs) all =
    put_all P (is_marked marks at) x (marked marks (at + 1) xs) (All-head P x xs all)
    (marked_all P marks (at + 1) xs (All-tail P x xs all))

put_length : {A : Type 0} (test : Bool) (x : A) (xs : List A) → length (put_if test x xs) ≤ suc (length xs)
put_length true x xs = omega arith
put_length false x xs = omega arith

pub marked_few : {A : Type 0} (marks : List Bool) (at : ℕ) (xs : List A) → length (marked marks at xs) ≤ length xs
marked_few marks at [] = omega arith
marked_few marks at (x ∷ xs) =
    omega (arith, put_length (is_marked marks at) x (marked marks (at + 1) xs), marked_few marks (at + 1) xs)

-- ---- names that stand only once

module _ {A B : Type 0} (f : A → B) where
  get_put : (test : Bool) (x : A) (xs : List A) (k : ℕ) (y : B) → slice_get (map f (put_if test x xs)) k ≡ Some y
      → (j : ℕ) × (slice_get (map f (x ∷ xs)) j ≡ Some y)
  get_put true x xs k y at = (k, at)
  get_put false x xs k y at = (suc k, at)

  behind : (x : A) (xs ys : List A)
      → ((k : ℕ) (y : B) → slice_get (map f xs) k ≡ Some y → (j : ℕ) × (slice_get (map f ys) j ≡ Some y))
      → (k : ℕ) (y : B) → slice_get (map f (x ∷ xs)) k ≡ Some y → (j : ℕ) × (slice_get (map f (x ∷ ys)) j ≡ Some y)
  behind x xs ys is zero y at = (0, at)
  behind x xs ys is (suc k) y at = let more = is k y at in (suc more.0, more.1)

  of_marked : (marks : List Bool) (at : ℕ) (xs : List A) (k : ℕ) (y : B) → slice_get (map f (marked marks at xs)) k ≡ Some y
      → (j : ℕ) × (slice_get (map f xs) j ≡ Some y)
  of_marked marks at [] k y here = absurd (none-some y here)
  of_marked marks at (x ∷ xs) k y here =
      let rest = marked marks (at + 1) xs in
      let got = get_put (is_marked marks at) x rest k y here in
      behind x rest xs (λ i z. of_marked marks (at + 1) xs i z) got.0 y got.1

  once_tail : (x : A) (xs : List A) → OnlyOnce (map f (x ∷ xs)) → OnlyOnce (map f xs)
  once_tail x xs once i j y at_i at_j = let same = once (suc i) (suc j) y at_i at_j in omega (arith, same)

  once_head : (x : A) (xs : List A) → OnlyOnce (map f (x ∷ xs)) → (j : ℕ) → slice_get (map f xs) j ≡ Some (f x) → ⊥
  once_head x xs once j at = let same : 0 ≡ suc j = once 0 (suc j) (f x) refl at in omega (arith, same)

  once_cons : (x : A) (xs : List A) → OnlyOnce (map f xs) → ((j : ℕ) → slice_get (map f xs) j ≡ Some (f x) → ⊥)
      → OnlyOnce (map f (x ∷ xs))
  once_cons x xs once apart zero zero y at_i at_j = refl
  once_cons x xs once apart zero (suc j) y at_i at_j = absurd (apart j (at_j ∙ sym at_i))
  once_cons x xs once apart (suc i) zero y at_i at_j = absurd (apart i (at_i ∙ sym at_j))
  once_cons x xs once apart (suc i) (suc j) y at_i at_j = ap suc (once i j y at_i at_j)

  once_put : (test : Bool) (x : A) (xs : List A) → OnlyOnce (map f xs) → ((j : ℕ) → slice_get (map f xs) j ≡ Some (f x) → ⊥)
      → OnlyOnce (map f (put_if test x xs))
  once_put true x xs once apart = once_cons x xs once apart
  once_put false x xs once apart = once

  pub marked_once : (marks : List Bool) (at : ℕ) (xs : List A) → OnlyOnce (map f xs) → OnlyOnce (map f (marked marks at xs))
  marked_once marks at [] once = once
  marked_once marks at (x ∷ xs) once =
      once_put (is_marked marks at) x (marked marks (at + 1) xs) (marked_once marks (at + 1) xs (once_tail x xs once))
      (λ j here. let of = of_marked marks (at + 1) xs j (f x) here in once_head x xs once of.0 of.1)
