-- Rankings and given pairs of whole relations and specifications.
use Rattle.std.proofs.Common.{◌≡◌, ◌+◌, ◌<◌, ◌≤◌, ◌⊎◌, ◌∙◌, ℕ, List, [], Some, length, slice_get, slice_index_or, take, sym, ap, subst, ⊎_elim, arith}
use Rattle.std.proofs.lemmas.Bool.{cases_eq}
use Rattle.std.proofs.lemmas.Option.{same_Some}
use Rattle.spec_model.specs.declared.relation.Relation.{Relation}
use Rattle.spec_model.specs.Completion.{Rankings, HasShape, IsRanking}
use Rattle.spec_model.specs.FirstFlaw.{IsFirstUnranked}
use Rattle.spec_model.specs.Satisfies.{Lists}
use Rattle.denial_rules.specs.declared.rule.Rule.{Rule}
use Rattle.completion_check.specs.Tests.{Places}
use Rattle.completion_check.specs.Breaks.{NoChoiceBreaks, NoRuleBreaks, tried}
use Rattle.completion_check.proofs.Places.{get_of_take}
use Rattle.completion_check.specs.Relations.{FitsRelation, IsRanked, IsFirstUnrankedOf, list_of}

-- the rankings of one more attribute
pub ranked_more : (r : Relation) (lists : Lists) (n count : ℕ) → length (slice_index_or lists n []) ≡ length r.entities
    → ((ent : ℕ) → ent < count → IsRanking r.rows ent (list_of lists n ent)) → length (slice_index_or lists n []) ≤ count
    → ((attr ent : ℕ) → attr < n → ent < length r.entities → IsRanking r.rows ent (list_of lists attr ent))
    → (attr ent : ℕ) → attr < n + 1 → ent < length r.entities → IsRanking r.rows ent (list_of lists attr ent)
ranked_more r lists n count same here whole before attr ent below within =
    ⊎_elim
    (λ (is : attr ≡ n). rw is (here ent (omega arith)))
    (λ (apart : attr ≡ n → ⊥). before attr ent (omega arith) within)
    (cases_eq attr n)

-- an attribute that has lists is one of the relation's
pub attr_within : (r : Relation) (lists : Lists) (n : ℕ) → FitsRelation r lists → n < length lists → n < length r.attrs
attr_within r lists n shape within = omega (arith, shape.per_attr)

-- and the attributes that have lists are all of them
pub attr_passed : (r : Relation) (lists : Lists) (n attr : ℕ) → FitsRelation r lists → length lists ≤ n
    → attr < length r.attrs → attr < n
attr_passed r lists n attr shape past within = omega (arith, shape.per_attr)

-- the first list of a relation that is no ranking, which was found at an attribute's number
pub first_unranked_of : (r : Relation) (lists : Lists) (n ent : ℕ) → FitsRelation r lists → n < length lists
    → ent < length (slice_index_or lists n []) → ((e : ℕ) → e < ent → IsRanking r.rows e (list_of lists n e))
    → (IsRanking r.rows ent (list_of lists n ent) → ⊥)
    → ((attr e : ℕ) → attr < n → e < length r.entities → IsRanking r.rows e (list_of lists attr e))
    → IsFirstUnrankedOf r lists n ent
first_unranked_of r lists n ent shape within inside here broken before =
    let is_attr = attr_within r lists n shape within in
    record {
      attr_within = is_attr;
      ent_within = subst (λ (m : ℕ). ent < m) (shape.per_entity n is_attr) inside;
      broken = broken;
      earlier = λ attr e is_attr' is_ent stands.
          ⊎_elim
          (λ (less : attr < n). before attr e less is_ent)
          (λ (same : (attr ≡ n) × (e < ent)). rw same.0 (here e same.1))
          stands;
    }

-- the lists of one relation of a completion
pub fits_relation : (rs : List Relation) (c : Rankings) (rel : ℕ) (r : Relation) → HasShape rs c → slice_get rs rel ≡ Some r
    → FitsRelation r (slice_index_or c rel [])
fits_relation rs c rel r shape at =
    record { per_attr = shape.per_attr rel r at; per_entity = shape.per_entity rel r at }

-- the first list of a specification that is no ranking
pub first_unranked : (rs : List Relation) (c : Rankings) (rel : ℕ) (r : Relation) (attr ent : ℕ) → slice_get rs rel ≡ Some r
    → ((other : ℕ) (q : Relation) → other < rel → slice_get rs other ≡ Some q → IsRanked q (slice_index_or c other []))
    → IsFirstUnrankedOf r (slice_index_or c rel []) attr ent → IsFirstUnranked rs c rel attr ent
first_unranked rs c rel r attr ent at before first =
    record {
      relation = r;
      is_relation = at;
      attr_within = first.attr_within;
      ent_within = first.ent_within;
      broken = first.broken;
      earlier = λ rel' q at' attr' ent' inside inside' stands.
          ⊎_elim
          (λ (less : rel' < rel). before rel' q less at' attr' ent' inside inside')
          (λ (same : (rel' ≡ rel) × ((attr' < attr) ⊎ ((attr' ≡ attr) × (ent' < ent)))).
          let own : q ≡ r = same_Some q r (sym at' ∙ (ap (slice_get rs) same.0 ∙ at)) in
          let in_attrs : attr' < length r.attrs = subst (λ (x : Relation). attr' < length x.attrs) own inside in
          let in_entities : ent' < length r.entities = subst (λ (x : Relation). ent' < length x.entities) own inside' in
          let ranking = first.earlier attr' ent' in_attrs in_entities same.1 in
          rw (own, same.0) ranking)
          stands;
    }

-- no rule before one is broken
pub no_earlier_rule : (rs : List Relation) (rules : List Rule) (places : List Places) (n : ℕ)
    → ((k : ℕ) (rule : Rule) → k < n → slice_get rules k ≡ Some rule → (r : Relation) → slice_get rs rule.relation.0 ≡ Some r
    → NoChoiceBreaks (tried rule r (slice_index_or places rule.relation.0 [])))
    → NoRuleBreaks rs (take n rules) places
no_earlier_rule rs rules places n each k rule at = let found = get_of_take rules n k rule at in each k rule found.0 found.1
