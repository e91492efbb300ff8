-- Laws of answers and of current instances, as statements.
use Rattle.std.specs.Prelude.{◌≡◌, ◌⊎◌, List, All}
use Rattle.answer_laws.specs.Answered.{IsAnswerIn}
use Rattle.currency_base.specs.declared.value.Value.{Value}
use Rattle.query_model.specs.Answers.{IsAnswer}
use Rattle.query_model.specs.Fitting.{IsQuery}
use Rattle.query_model.specs.declared.query.Query.{Query}
use Rattle.spec_model.specs.Completion.{Rankings, IsCompletion}
use Rattle.spec_model.specs.Current.{IsCurrentInstance}
use Rattle.spec_model.specs.Facts.{IsRelation}
use Rattle.spec_model.specs.declared.relation.Relation.{Relation}

-- whether a tuple is an answer over an instance is decided
abbrev pub AnswersAreDecided : Type 0
AnswersAreDecided = (q : Query) → IsQuery q → (instance : List (List (List Value))) (tuple : List Value)
    → IsAnswer q instance tuple ⊎ (IsAnswer q instance tuple → ⊥)

-- each completion of a specification has a current instance
abbrev pub InstancesExist : Type 0
InstancesExist = (relations : List Relation) → All IsRelation relations → (c : Rankings) → IsCompletion relations c
    → (instance : List (List (List Value))) × IsCurrentInstance relations c instance

-- and one only
abbrev pub InstancesAreOne : Type 0
InstancesAreOne = (relations : List Relation) (c : Rankings) (one other : List (List (List Value)))
    → IsCurrentInstance relations c one → IsCurrentInstance relations c other → one ≡ other

-- whether a tuple is an answer over the current instance of a completion is decided
abbrev pub AnswersInAreDecided : Type 0
AnswersInAreDecided = (relations : List Relation) → All IsRelation relations → (c : Rankings) → IsCompletion relations c
    → (query : Query) → IsQuery query → (tuple : List Value)
    → IsAnswerIn relations query tuple c ⊎ (IsAnswerIn relations query tuple c → ⊥)
