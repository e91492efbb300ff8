-- Marks of rows, which are added one by one.
use Rattle.std.proofs.Common.{◌≡◌, ◌+◌, ◌<◌, ◌≤◌, ◌⊎◌, inl, inr, ℕ, zero, suc, Bool, true, false, List, [], ◌∷◌, ◌++◌, length, get_or, None, Some, nat_lt, slice_get, slice_index_or, refl, sym, ap, subst, ◌∙◌, arith}
use Rattle.std.proofs.lemmas.Bool.{false≢true, ltb-true}
use Rattle.std.proofs.lemmas.List.{get_or_append_left, get_or_push, length_push}
use Rattle.std.proofs.lemmas.Option.{none-some, get_or_from_slice_get, slice_get_read, slice_get_within}
use Rattle.currency_base.specs.declared.value.Value.{Value}
use Rattle.semi_joins.specs.Kept.{Keeps, is_kept}

-- a place inside a list has an element
pub get_none : {A : Type 0} (xs : List A) (i : ℕ) → i < length xs → None ≡ slice_get xs i → ⊥
get_none [] i below none = omega arith
get_none (x ∷ xs) zero below none = none-some x none
get_none (x ∷ xs) (suc i) below none = get_none xs i (omega arith) none

-- what is read of a list
pub got : {A : Type 0} (xs : List A) (place : ℕ) (x : A) → true ≡ nat_lt place (length xs) → x ≡ slice_index_or xs place x
    → slice_get xs place ≡ Some x
got xs place x inside is = slice_get_read xs (length xs) place x refl (ltb-true place (length xs) (sym inside)) is

pub read : {A : Type 0} (xs : List A) (k : ℕ) (x y : A) → k < length xs → y ≡ slice_index_or xs k y → x ≡ y
    → slice_get xs k ≡ Some x
read xs k x y inside is same = slice_get_read xs (length xs) k y refl inside is ∙ ap (λ u. Some u) (sym same)

-- as many marks as rows that were gone through, of which those are kept of which it is so
pub record KeepsBelow (IsSo : ℕ → List Value → Type 0) (rows : List (List Value)) (n : ℕ) (marks : List Bool) : Type 0 where
  pub as_many : length marks ≡ n
  pub each : (place : ℕ) (row : List Value) → place < n → slice_get rows place ≡ Some row → IsSo place row
      → is_kept marks place ≡ true

pub below_none : (IsSo : ℕ → List Value → Type 0) (rows : List (List Value)) → KeepsBelow IsSo rows 0 []
below_none IsSo rows = record { as_many = refl; each = λ place row below at so. absurd (omega (arith, below)) }

-- the place is before, or the next
pub before_or_next : (place n : ℕ) → place < n + 1 → (place < n) ⊎ (place ≡ n)
before_or_next zero zero below = inr refl
before_or_next zero (suc n) below = inl (omega arith)
before_or_next (suc place) zero below = absurd (omega (arith, below))
before_or_next (suc place) (suc n) below = by (before_or_next place n (omega (arith, below)))
  where
    by : (place < n) ⊎ (place ≡ n) → (suc place < suc n) ⊎ (suc place ≡ suc n)
    by (inl before) = inl (omega (arith, before))
    by (inr same) = inr (ap suc same)

-- one more mark
pub below_next : (IsSo : ℕ → List Value → Type 0) (rows : List (List Value)) (n : ℕ) (marks now : List Bool) (mark : Bool)
    (row : List Value) → n < length rows → row ≡ get_or rows n row → now ≡ marks ++ mark ∷ [] → (IsSo n row → mark ≡ true)
    → KeepsBelow IsSo rows n marks → KeepsBelow IsSo rows (n + 1) now
below_next IsSo rows n marks now mark row inside is after marked so =
    subst (KeepsBelow IsSo rows (n + 1)) (sym after) record {
      as_many = length_push marks mark ∙ ap (λ k. k + 1) so.as_many;
      each = λ place r below at holds. from place r at holds (before_or_next place n below);
    }
  where
    from : (place : ℕ) (r : List Value) → slice_get rows place ≡ Some r → IsSo place r → (place < n) ⊎ (place ≡ n)
        → is_kept (marks ++ mark ∷ []) place ≡ true
    from place r at holds (inl before) =
        get_or_append_left marks (mark ∷ []) false place (subst (λ k. place < k) (sym so.as_many) before)
        ∙ so.each place r before at holds
    from place r at holds (inr same) =
        let there : slice_get rows n ≡ Some r = subst (λ k. slice_get rows k ≡ Some r) same at in
        let equal : r ≡ row = sym (get_or_from_slice_get rows n r row there) ∙ sym is in
        let here : IsSo n row = subst (IsSo n) equal (subst (λ k. IsSo k r) same holds) in
        get_or_push marks mark false place (so.as_many ∙ sym same) ∙ marked here

-- all rows were gone through
pub below_all : (IsSo : ℕ → List Value → Type 0) (rows : List (List Value)) (n : ℕ) (marks : List Bool) → length rows ≤ n
    → KeepsBelow IsSo rows n marks → Keeps IsSo rows marks
below_all IsSo rows n marks past so = λ place row at holds.
    let within = slice_get_within rows place row at in
    so.each place row (omega (arith, within, past)) at holds

-- no mark that was gone through keeps its row
pub none_next : (marks : List Bool) (n : ℕ) → is_kept marks n ≡ false → ((place : ℕ) → place < n → is_kept marks place ≡ false)
    → (place : ℕ) → place < n + 1 → is_kept marks place ≡ false
none_next marks n last before place below = by (before_or_next place n below)
  where
    by : (place < n) ⊎ (place ≡ n) → is_kept marks place ≡ false
    by (inl earlier) = before place earlier
    by (inr same) = ap (is_kept marks) same ∙ last

kept_within : (marks : List Bool) (place : ℕ) → is_kept marks place ≡ true → place < length marks
kept_within [] place is = absurd (false≢true is)
kept_within (mark ∷ marks) zero is = omega arith
kept_within (mark ∷ marks) (suc place) is =
    let within = kept_within marks place is in
    omega (arith, within)

pub none_all : (marks : List Bool) (n : ℕ) → length marks ≤ n → ((place : ℕ) → place < n → is_kept marks place ≡ false)
    → (place : ℕ) → is_kept marks place ≡ true → ⊥
none_all marks n past none place is =
    let within = kept_within marks place is in
    false≢true (sym (none place (omega (arith, within, past))) ∙ is)
