-- Whether a tuple is an answer over the current instance of a completion is decided.
use Rattle.std.proofs.Common.{List, All, subst}
use Rattle.currency_base.specs.declared.value.Value.{Value}
use Rattle.query_model.specs.Answers.{IsAnswer}
use Rattle.query_model.specs.Fitting.{IsQuery}
use Rattle.query_model.specs.declared.query.Query.{Query}
use Rattle.spec_model.specs.Completion.{Rankings, IsCompletion}
use Rattle.spec_model.specs.Facts.{IsRelation}
use Rattle.spec_model.specs.declared.relation.Relation.{Relation}
use Rattle.answer_laws.specs.Answered.{IsAnswerIn}
use Rattle.answer_laws.proofs.Answering.{answers_decided}
use Rattle.answer_laws.proofs.Decisions.{Decided, decided_as}
use Rattle.answer_laws.proofs.Instances.{some_instance, one_instance}

pub answers_in_decided : (relations : List Relation) → All IsRelation relations → (c : Rankings) → IsCompletion relations c
    → (query : Query) → IsQuery query → (tuple : List Value) → Decided (IsAnswerIn relations query tuple c)
answers_in_decided relations are c completion query is tuple =
    let own = some_instance relations are c completion in
    decided_as
    (λ (holds : IsAnswer query own.0 tuple). record { instance = own.0; is_current = own.1; is_answer = holds })
    (λ (answer : IsAnswerIn relations query tuple c).
    subst (λ (i : List (List (List Value))). IsAnswer query i tuple)
    (one_instance relations c answer.instance own.0 answer.is_current own.1) answer.is_answer)
    (answers_decided query is own.0 tuple)
