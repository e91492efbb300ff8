-- Marks of relations.
use Rattle.std.proofs.Common.{◌≡◌, ◌∙◌, ◌<◌, ⊎_elim, ℕ, zero, suc, Bool, true, false, List, [], ◌∷◌, ◌++◌, Contains, Some, get_or, length, replicate, set, slice_get, refl, sym, ap, arith}
use Rattle.std.proofs.lemmas.Bool.{cases_eq, false≢true}
use Rattle.std.proofs.lemmas.List.Elements.{Contains-append_cases, Contains-append_left, Contains-append_right}
use Rattle.std.proofs.lemmas.Option.{same_Some, none-some, get_or_from_slice_get, slice_get-get_or}
use Rattle.currency_base.specs.declared.ids.AttrId.{AttrId}
use Rattle.currency_base.specs.declared.ids.RelId.{RelId}
use Rattle.value_candidates.specs.Steps.{AreMarks}
use Rattle.value_candidates.proofs.Lists.{single}

-- a relation's number makes the relation
pub one_rel : (a b : RelId) → a.0 ≡ b.0 → a ≡ b
one_rel a b e = ap (λ (n : ℕ). let x : RelId = record { 0 = n } in x) e

pub one_attr : (a b : AttrId) → a.0 ≡ b.0 → a ≡ b
one_attr a b e = ap (λ (n : ℕ). let x : AttrId = record { 0 = n } in x) e

none_set : (count i : ℕ) → slice_get (replicate count false) i ≡ Some true → ⊥
none_set zero i at = none-some true at
none_set (suc count) zero at = false≢true (same_Some false true at)
none_set (suc count) (suc i) at = none_set count i at

many_none : (count : ℕ) → length (replicate count false) ≡ count
many_none zero = refl
many_none (suc count) = ap suc (many_none count)

set_here : {A : Type 0} (xs : List A) (i : ℕ) (y : A) → i < length xs → slice_get (set xs i y) i ≡ Some y
set_here [] i y below = absurd (omega arith)
set_here (x ∷ xs) zero y below = refl
set_here (x ∷ xs) (suc i) y below = set_here xs i y (omega arith)

set_elsewhere : {A : Type 0} (xs : List A) (i j : ℕ) (y : A) → (j ≡ i → ⊥) → slice_get (set xs i y) j ≡ slice_get xs j
set_elsewhere [] i j y apart = refl
set_elsewhere (x ∷ xs) zero zero y apart = absurd (apart refl)
set_elsewhere (x ∷ xs) zero (suc j) y apart = refl
set_elsewhere (x ∷ xs) (suc i) zero y apart = refl
set_elsewhere (x ∷ xs) (suc i) (suc j) y apart = set_elsewhere xs i j y (λ e. apart (ap suc e))

set_many : {A : Type 0} (xs : List A) (i : ℕ) (y : A) → length (set xs i y) ≡ length xs
set_many [] i y = refl
set_many (x ∷ xs) zero y = refl
set_many (x ∷ xs) (suc i) y = ap suc (set_many xs i y)

-- no relation is marked
pub marks_none : (count : ℕ) → AreMarks [] count (replicate count false)
marks_none count = record {
  many = many_none count;
  marked = λ rel c. absurd (omega (arith, c.1));
  only = λ rel at. absurd (none_set count rel.0 at);
}

-- one relation more is marked
pub marks_more : (rels : List RelId) (count : ℕ) (marks : List Bool) (rel : RelId) → rel.0 < count → AreMarks rels count marks
    → AreMarks (rels ++ rel ∷ []) count (set marks rel.0 true)
marks_more rels count marks rel below so_far = record {
  many = set_many marks rel.0 true ∙ so_far.many;
  marked = λ other c. ⊎_elim (λ (e : other.0 ≡ rel.0). here other e) (λ (apart : other.0 ≡ rel.0 → ⊥). elsewhere other apart c)
      (cases_eq other.0 rel.0);
  only = λ other at. ⊎_elim
      (λ (e : other.0 ≡ rel.0). Contains-append_right rels (rel ∷ []) other (0, omega arith, sym (one_rel other rel e)))
      (λ (apart : other.0 ≡ rel.0 → ⊥).
      Contains-append_left rels (rel ∷ []) other (so_far.only other (sym (set_elsewhere marks rel.0 other.0 true apart) ∙ at)))
      (cases_eq other.0 rel.0);
}
  where
    here : (other : RelId) → other.0 ≡ rel.0 → slice_get (set marks rel.0 true) other.0 ≡ Some true
    here other e =
        ap (slice_get (set marks rel.0 true)) e ∙ set_here marks rel.0 true (omega (arith, below, so_far.many))

    elsewhere : (other : RelId) → (other.0 ≡ rel.0 → ⊥) → Contains (rels ++ rel ∷ []) other
        → slice_get (set marks rel.0 true) other.0 ≡ Some true
    elsewhere other apart c =
        set_elsewhere marks rel.0 other.0 true apart
        ∙ ⊎_elim (λ (a : Contains rels other). so_far.marked other a)
        (λ (b : Contains (rel ∷ []) other). absurd (apart (ap (λ (x : RelId). x.0) (sym (single rel other b)))))
        (Contains-append_cases rels (rel ∷ []) other c)

-- what the mark of a relation says
pub is_asked : (rels : List RelId) (count : ℕ) (marks : List Bool) (rel : RelId) → AreMarks rels count marks → rel.0 < count
    → get_or marks rel.0 false ≡ true → Contains rels rel
is_asked rels count marks rel are below set =
    are.only rel (slice_get-get_or marks rel.0 false (omega (arith, below, are.many)) ∙ ap Some set)

pub not_asked : (rels : List RelId) (count : ℕ) (marks : List Bool) (rel : RelId) → AreMarks rels count marks
    → get_or marks rel.0 false ≡ false → Contains rels rel → ⊥
not_asked rels count marks rel are unset c =
    false≢true (sym unset ∙ get_or_from_slice_get marks rel.0 true false (are.marked rel c))
