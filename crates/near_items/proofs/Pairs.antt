-- Pairs that are asked of a part.
use Rattle.std.proofs.Common.{◌≡◌, ◌⊎◌, ◌∙◌, ◌+◌, ◌++◌, ◌∷◌, ℕ, List, [], Some, length, slice_get, refl, sym, ap, subst, inl, inr, arith}
use Rattle.std.proofs.lemmas.List.{length_push}
use Rattle.std.proofs.lemmas.List.Elements.{All-weaker}
use Rattle.std.proofs.lemmas.Option.{none-some, same_Some, slice_get_within}
use Rattle.part_facts.specs.Questions.{AreAskedParts, IsAskedPart}
use Rattle.part_laws.specs.Parts.{ArePlacesOf, Places, Scope}
use Rattle.spec_model.specs.Questions.{IsAskedPair}
use Rattle.spec_model.specs.declared.question.Asked.{Asked}
use Rattle.spec_model.specs.declared.question.Question.{Question}
use Rattle.spec_model.specs.declared.question.Question.TheVariants as asked
use Rattle.spec_model.specs.declared.relation.Relation.{Relation}
use Rattle.unit_questions.specs.Facts.{IsFactQuestion}
use Rattle.near_items.specs.Sites.{AreInPlaces, IsInPlaces}
use Rattle.near_items.specs.Steps.{AreAskedTo}
use Rattle.near_items.proofs.Ends.{get_push}

-- the pairs of a question are of relations of which places are known
pub in_places : (relations : List Relation) (scope : Scope) (n : Places) (q : Question) → ArePlacesOf relations scope n
    → IsFactQuestion relations q → AreInPlaces n q
in_places relations scope n asked.Consistent are is = tt
in_places relations scope n (asked.Certain pairs) are is =
    All-weaker (IsAskedPair relations) (IsInPlaces n)
    (λ p can.
    let below = slice_get_within relations p.rel.0 can.relation can.is_relation in
    let many = are.rows_per_relation in
    omega (arith, below, many))
    pairs is.on
in_places relations scope n (asked.Same rels) are is = tt
in_places relations scope n (asked.Answers query) are is = tt

module _ (n : Places) (old : List Asked) where
  pub asked_none : AreAskedTo n [] old 0
  asked_none = record { as_many = refl; each = λ k p old_p at at'. absurd (none-some p at) }

  pub asked_more : (new longer : List Asked) (count : ℕ) (p old_p : Asked) → AreAskedTo n new old count
      → slice_get old count ≡ Some old_p → IsAskedPart n p old_p → longer ≡ new ++ p ∷ [] → AreAskedTo n longer old (count + 1)
  asked_more new longer count p old_p are there is put = record {
    as_many = ap length put ∙ length_push new p ∙ ap (λ (m : ℕ). m + 1) are.as_many;
    each = λ k x y at at'.
        by k x y (get_push new p x k (subst (λ (l : List Asked). slice_get l k ≡ Some x) put at)) at';
  }
    where
      by : (k : ℕ) (x y : Asked) → (slice_get new k ≡ Some x) ⊎ ((k ≡ length new) × (p ≡ x)) → slice_get old k ≡ Some y
          → IsAskedPart n x y
      by k x y (inl at) at' = are.each k x y at at'
      by k x y (inr last) at' =
          let place : k ≡ count = last.0 ∙ are.as_many in
          let same : old_p ≡ y = same_Some old_p y (sym there ∙ subst (λ (m : ℕ). slice_get old m ≡ Some y) place at') in
          subst (λ (z : Asked). IsAskedPart n z y) last.1 (subst (IsAskedPart n p) same is)

  pub asked_all : (new : List Asked) → AreAskedTo n new old (length old) → AreAskedParts n new old
  asked_all new are = record { as_many = are.as_many; each = are.each }
