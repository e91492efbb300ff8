-- A query whose disjuncts have no head has the empty tuple for its only answer, so the question for a fact has no two.
use Rattle.std.proofs.Common.{◌≡◌, ◌∙◌, ◌<◌, ℕ, List, [], ◌∷◌, All, Some, get_or, length, slice_get, refl, ap, subst, arith}
use Rattle.std.proofs.lemmas.List.Elements.{All-contains, All-get_or}
use Rattle.std.proofs.lemmas.Option.{same_Some, slice_get-get_or, none-some}
use Rattle.decided_facts.specs.Decided.{HasTooMany}
use Rattle.currency_base.specs.declared.value.Value.{Value}
use Rattle.query_model.specs.Answers.{HasMore, IsAnswer, IsHead}
use Rattle.query_model.specs.declared.query.Disjunct.{Disjunct}
use Rattle.query_model.specs.declared.query.Query.{Query}
use Rattle.report_verify.specs.Asked.{query_of}
use Rattle.spec_model.specs.Completion.{Rankings}
use Rattle.spec_model.specs.Spec.{Spec}
use Rattle.spec_model.specs.declared.question.Question.{Question}
use Rattle.spec_model.specs.declared.question.Question.TheVariants as asked
use Rattle.unit_questions.specs.Facts.{IsBoolean, IsFactQuestion, IsOfFact}

of_no_head : (values : List Value) (tuple : List Value) → IsHead values [] tuple → tuple ≡ []
of_no_head values [] is = refl
of_no_head values (x ∷ tuple) is = absurd (cc)

is_empty : (query : Query) → IsBoolean query → (instance : List (List (List Value))) (tuple : List Value)
    → IsAnswer query instance tuple → tuple ≡ []
is_empty query boolean instance tuple answer =
    of_no_head answer.values tuple
    (subst (λ (head : List ℕ). IsHead answer.values head tuple)
    (All-contains (λ (d : Disjunct). d.head ≡ []) query.disjuncts answer.disjunct boolean answer.is_disjunct) answer.is_head)

-- the tuple at each place is empty
empty_at : (query : Query) → IsBoolean query → (instance : List (List (List Value))) (some : List (List Value))
    → All (IsAnswer query instance) some → (k : ℕ) → k < length some → slice_get some k ≡ Some []
empty_at query boolean instance some each k inside =
    slice_get-get_or some k [] inside
    ∙ ap Some (is_empty query boolean instance (get_or some k [])
    (All-get_or (IsAnswer query instance) some k [] inside each))

one_at_most : (query : Query) → IsBoolean query → (instance : List (List (List Value))) (bound : ℕ) → 0 < bound
    → HasMore query instance bound → ⊥
one_at_most query boolean instance bound some more =
    let first = empty_at query boolean instance more.some more.each 0 (omega (arith, some, more.more)) in
    let second = empty_at query boolean instance more.some more.each 1 (omega (arith, some, more.more)) in
    let same : 0 ≡ 1 = more.once 0 1 [] first second in
    absurd (omega (arith, same))

asks_query : (q : Question) (query : Query) → query_of q ≡ Some query → q ≡ asked.Answers query
asks_query asked.Consistent query is = absurd (none-some query is)
asks_query (asked.Certain pairs) query is = absurd (none-some query is)
asks_query (asked.Same rels) query is = absurd (none-some query is)
asks_query (asked.Answers own) query is = ap (λ x. asked.Answers x) (same_Some own query is)

-- the question for a fact has not too many answers
pub not_too_many : (s : Spec) (q : Question) → IsFactQuestion s.relations q → (c : Rankings) → HasTooMany s q c → ⊥
not_too_many s q fact c many =
    one_at_most many.query (subst IsOfFact (asks_query q many.query many.is_query) fact.of_fact) many.too_many.instance 1000000
    (omega arith) many.too_many.more
