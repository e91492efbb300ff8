-- Marks of variables, and how many have none.
use Rattle.std.proofs.Common.{◌≡◌, ◌⊎◌, ◌<◌, ◌≤◌, ◌∙◌, ℕ, zero, suc, Bool, true, false, List, [], ◌∷◌, Some, replicate, slice_get, slice_set, refl, sym, ap, subst, inl, inr, arith}
use Rattle.std.proofs.lemmas.List.{length-set}
use Rattle.refutation_log.specs.declared.step.Step.{Step}
use Rattle.order_search.specs.Kept.{AreBrought, IsBrought, unmarked}
use Rattle.order_search.specs.Searches.{Subject}

-- ---- how many have none

pub unmarked_later : (marks : List Bool) (var : ℕ) → unmarked (slice_set marks var true) ≤ unmarked marks
unfolding unmarked
unmarked_later [] var = (omega arith)
unmarked_later (true ∷ marks) zero = (omega arith)
unmarked_later (false ∷ marks) zero = (omega arith)
unmarked_later (true ∷ marks) (suc var) = let more = unmarked_later marks var in more
unmarked_later (false ∷ marks) (suc var) = let more = unmarked_later marks var in (omega (arith, more))

pub unmarked_fewer : (marks : List Bool) (var : ℕ) → slice_get marks var ≡ Some false
    → unmarked (slice_set marks var true) < unmarked marks
unfolding unmarked
unmarked_fewer [] var is = let no : ⊥ = cc in absurd no
unmarked_fewer (true ∷ marks) zero is = let no : ⊥ = cc in absurd no
unmarked_fewer (false ∷ marks) zero is = (omega arith)
unmarked_fewer (true ∷ marks) (suc var) is = let more = unmarked_fewer marks var is in more
unmarked_fewer (false ∷ marks) (suc var) is = let more = unmarked_fewer marks var is in (omega (arith, more))

-- ---- one more mark

set_get : (marks : List Bool) (var other : ℕ) (mark : Bool) → slice_get (slice_set marks var true) other ≡ Some mark
    → (other ≡ var) ⊎ (slice_get marks other ≡ Some mark)
set_get [] var other mark is = inr is
set_get (m ∷ marks) zero zero mark is = inl refl
set_get (m ∷ marks) zero (suc other) mark is = inr is
set_get (m ∷ marks) (suc var) zero mark is = inr is
set_get (m ∷ marks) (suc var) (suc other) mark is = go (set_get marks var other mark is)
  where
    go : (other ≡ var) ⊎ (slice_get marks other ≡ Some mark) → (suc other ≡ suc var) ⊎ (slice_get marks other ≡ Some mark)
    go (inl e) = inl (ap suc e)
    go (inr e) = inr e

pub brought_mark : (s : Subject) (steps : List Step) (marks : List Bool) (var : ℕ) → AreBrought s steps marks
    → IsBrought s steps var
    → AreBrought s steps (slice_set marks var true)
brought_mark s steps marks var were is = record {
  per_variable = length-set marks var true ∙ were.per_variable;
  marked = λ other mark. go other (set_get marks var other true mark);
}
  where
    go : (other : ℕ) → (other ≡ var) ⊎ (slice_get marks other ≡ Some true) → IsBrought s steps other
    go other (inl e) = subst (IsBrought s steps) (sym e) is
    go other (inr mark) = were.marked other mark

-- ---- no mark

pub none_marked : (count var : ℕ) → slice_get (replicate count false) var ≡ Some true → ⊥
none_marked zero var is = let no : ⊥ = cc in no
none_marked (suc count) zero is = let no : ⊥ = cc in no
none_marked (suc count) (suc var) is = none_marked count var is
