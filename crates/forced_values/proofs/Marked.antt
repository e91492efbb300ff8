-- Facts are marked one by one.
use Rattle.std.proofs.Common.{◌≡◌, ◌∙◌, ℕ, zero, suc, Bool, true, List, [], ◌∷◌, ◌++◌, Some, length, slice_get, refl, ap, arith}
use Rattle.std.proofs.lemmas.List.{length-append}
use Rattle.std.proofs.lemmas.Option.{none-some, same_Some}
use Rattle.posed_facts.specs.Facts.{FactIn}
use Rattle.posed_facts.specs.declared.fact.Fact.{Fact}
use Rattle.report_verify.specs.Right.{EachConsistent}
use Rattle.decided_facts.specs.Steps.{AreMarked}
use Rattle.spec_model.specs.Spec.{Spec}

-- what holds of the items at each place of two lists, and of one more item of each, holds at each place of the longer lists
each_more : {A B : Type 0} (P : A → B → Type 0) (xs : List A) (ys : List B) (x : A) (y : B) → length xs ≡ length ys
    → ((k : ℕ) (a : A) (b : B) → slice_get xs k ≡ Some a → slice_get ys k ≡ Some b → P a b) → P x y
    → (k : ℕ) (a : A) (b : B) → slice_get (xs ++ x ∷ []) k ≡ Some a → slice_get (ys ++ y ∷ []) k ≡ Some b → P a b
each_more P [] [] x y many each one zero a b at_a at_b = rw (← same_Some x a at_a, ← same_Some y b at_b) one
each_more P [] [] x y many each one (suc k) a b at_a at_b = absurd (none-some a at_a)
each_more P [] (v ∷ ys) x y many each one k a b at_a at_b = absurd (omega (arith, many))
each_more P (u ∷ xs) [] x y many each one k a b at_a at_b = absurd (omega (arith, many))
each_more P (u ∷ xs) (v ∷ ys) x y many each one zero a b at_a at_b = each 0 a b at_a at_b
each_more P (u ∷ xs) (v ∷ ys) x y many each one (suc k) a b at_a at_b =
    each_more P xs ys x y (omega (arith, many)) (λ j. each (suc j)) one k a b at_a at_b

-- no facts have no marks
pub marked_none : (s : Spec) → AreMarked s [] []
marked_none s = record { per_fact = omega arith; each = λ k f at. absurd (none-some true at) }

-- one more fact and its mark
pub marked_more : (s : Spec) (facts : List Fact) (marks : List Bool) (f : Fact) (mark : Bool) → AreMarked s facts marks
    → (mark ≡ true → EachConsistent s (FactIn s.relations f)) → AreMarked s (facts ++ f ∷ []) (marks ++ mark ∷ [])
marked_more s facts marks f mark are holds = record {
  per_fact = omega (arith, are.per_fact, length-append marks (mark ∷ []), length-append facts (f ∷ []));
  each = λ k g at_mark at_fact.
      each_more (λ (m : Bool) (h : Fact). m ≡ true → EachConsistent s (FactIn s.relations h)) marks facts mark f are.per_fact
      (λ j m h at_m at_h is. are.each j h (at_m ∙ ap (λ b. Some b) is) at_h) holds k true g at_mark at_fact refl;
}
