-- A query has one list of answers.
use Rattle.std.proofs.Common.{◌≡◌, ◌⊎◌, inl, inr, suc, List, [], ◌∷◌, Some, slice_get, refl, sym, ap, subst, ◌∙◌, arith}
use Rattle.std.proofs.lemmas.List.Elements.{All-contains}
use Rattle.std.proofs.lemmas.Option.{slice_get-get_or}
use Rattle.currency_base.specs.declared.value.Value.{Value}
use Rattle.query_model.specs.Answers.{AreAnswers, AreAscending, IsAnswer, IsBelow}
use Rattle.query_model.specs.declared.query.Query.{Query}
use Rattle.ucq_answers.specs.TupleOrder.{tuple_total}
use Rattle.ucq_answers.proofs.Among.{Among, from_contains, to_contains}
use Rattle.ucq_answers.proofs.Ascending.{never_below}

-- each tuple is below those after it, by recursion
abbrev Rises : List (List Value) → Type 0
Rises [] = Unit {0}
Rises (x ∷ xs) = ((y : List Value) → Among xs y → IsBelow x y) × Rises xs

rises : (xs : List (List Value)) → AreAscending xs → Rises xs
rises [] ascend = tt
rises (x ∷ xs) ascend = (
  λ y is.
      let there = to_contains xs y is in
      let at : slice_get xs there.0 ≡ Some y = slice_get-get_or xs there.0 y there.1 ∙ ap (λ t. Some t) there.2 in
      ascend 0 (suc there.0) x y (omega arith) refl at,
  rises xs (λ i j a b before is_a is_b. ascend (suc i) (suc j) a b (omega (arith, before)) is_a is_b),
)

same_first : (x y : List Value) (xs ys : List (List Value)) → Rises (x ∷ xs) → Rises (y ∷ ys) → (y ≡ x) ⊎ Among ys x
    → (x ≡ y) ⊎ Among xs y → x ≡ y
same_first x y xs ys one other (inl same) there = sym same
same_first x y xs ys one other (inr here) (inl same) = same
same_first x y xs ys one other (inr here) (inr there) =
    absurd (never_below x (tuple_total.trans x y x (one.0 y there) (other.0 x here)))

later : (x y t : List Value) (xs ys : List (List Value)) → x ≡ y → Rises (x ∷ xs) → Among xs t → (y ≡ t) ⊎ Among ys t → Among ys t
later x y t xs ys same one is (inr there) = there
later x y t xs ys same one is (inl here) = absurd (never_below x (subst (IsBelow x) (sym (same ∙ here)) (one.0 t is)))

same_members : (xs ys : List (List Value)) → Rises xs → Rises ys → ((t : List Value) → Among xs t → Among ys t) →
    ((t : List Value) → Among ys t → Among xs t) → xs ≡ ys
same_members [] [] one other to from = refl
same_members [] (y ∷ ys) one other to from = absurd (from y (inl refl))
same_members (x ∷ xs) [] one other to from = absurd (to x (inl refl))
same_members (x ∷ xs) (y ∷ ys) one other to from =
    let first : x ≡ y = same_first x y xs ys one other (to x (inl refl)) (from y (inl refl)) in
    let rest : xs ≡ ys =
    same_members xs ys one.1 other.1 (λ t is. later x y t xs ys first one is (to t (inr is)))
    (λ t is. later y x t ys xs (sym first) other is (from t (inr is))) in
    cc

pub one_list : (q : Query) (instance : List (List (List Value))) (one other : List (List Value))
    → AreAnswers q instance one → AreAnswers q instance other → one ≡ other
one_list q instance one other are also =
    same_members one other (rises one are.ascending) (rises other also.ascending)
    (λ t is. from_contains other t (also.all t (All-contains (IsAnswer q instance) one t are.each (to_contains one t is))))
    (λ t is. from_contains one t (are.all t (All-contains (IsAnswer q instance) other t also.each (to_contains other t is))))
