-- Sums, counts and tests of lists whose items are no larger than those of others.
use Rattle.std.proofs.Common.{◌≡◌, ◌≤◌, ◌∙◌, ℕ, zero, suc, Bool, true, false, ◌||◌, List, [], ◌∷◌, Some, length, slice_get, cond, refl, sym, ap, arith}
use Rattle.std.specs.List.{list_any, count_by, sum_by}
use Rattle.std.proofs.lemmas.Bool.{false≢true}
use Rattle.std.proofs.lemmas.List.Sums.{sum_by-cons, sum_by-le-sum_by}
use Rattle.std.proofs.lemmas.Option.{none-some, same_Some}

-- a sum whose terms are no larger than those of another at their places
pub sums_below : {A B : Type 0} (f : A → ℕ) (g : B → ℕ) (xs : List A) (ys : List B) → length xs ≤ length ys
    → ((i : ℕ) (x : A) (y : B) → slice_get xs i ≡ Some x → slice_get ys i ≡ Some y → f x ≤ g y) → sum_by f xs ≤ sum_by g ys
sums_below f g [] ys few each = omega arith
sums_below f g (x ∷ xs) [] few each = absurd (omega (arith, few))
sums_below f g (x ∷ xs) (y ∷ ys) few each =
    let more = sums_below f g xs ys (omega (arith, few)) (λ i. each (suc i)) in
    omega (arith, more, each 0 x y refl refl, sum_by-cons f x xs, sum_by-cons g y ys)

pub or_none : (a b : Bool) → (a || b) ≡ false → (a ≡ false) × (b ≡ false)
or_none true b is = absurd (false≢true (sym is))
or_none false b is = (refl, is)

pub or_false : (a b : Bool) → a ≡ false → b ≡ false → (a || b) ≡ false
or_false true b is is' = is
or_false false b is is' = is'

-- a test that no item passes, where none at the same place of another list does
pub none_passes : {A B : Type 0} (p : A → Bool) (q : B → Bool) (xs : List A) (ys : List B) → length xs ≤ length ys
    → ((i : ℕ) (x : A) (y : B) → slice_get xs i ≡ Some x → slice_get ys i ≡ Some y → q y ≡ false → p x ≡ false)
    → list_any q ys ≡ false → list_any p xs ≡ false
none_passes p q [] ys few each none = refl
none_passes p q (x ∷ xs) [] few each none = absurd (omega (arith, few))
none_passes p q (x ∷ xs) (y ∷ ys) few each none =
    let parts = or_none (q y) (list_any q ys) none in
    or_false (p x) (list_any p xs) (each 0 x y refl refl parts.0)
    (none_passes p q xs ys (omega (arith, few)) (λ i. each (suc i)) parts.1)

-- of a test that no item passes, each item fails it
pub fails_at : {A : Type 0} (p : A → Bool) (xs : List A) (i : ℕ) (x : A) → list_any p xs ≡ false → slice_get xs i ≡ Some x
    → p x ≡ false
fails_at p [] i x none at = absurd (none-some x at)
fails_at p (y ∷ xs) zero x none at = ap p (sym (same_Some y x at)) ∙ (or_none (p y) (list_any p xs) none).0
fails_at p (y ∷ xs) (suc i) x none at = fails_at p xs i x (or_none (p y) (list_any p xs) none).1 at

-- what is counted once
pub ones_below : (a b : Bool) → (a ≡ true → b ≡ true) → cond a 1 0 ≤ cond b 1 0
ones_below false b more = omega arith
ones_below true true more = omega arith
ones_below true false more = absurd (false≢true (more refl))

-- a count of a test that a weaker test passes too
pub counts_below : {A : Type 0} (p q : A → Bool) (xs : List A) → ((x : A) → p x ≡ true → q x ≡ true)
    → count_by p xs ≤ count_by q xs
counts_below p q xs more = sum_by-le-sum_by (λ x. cond (p x) 1 0) (λ x. cond (q x) 1 0) xs (λ x. ones_below (p x) (q x) (more x))
