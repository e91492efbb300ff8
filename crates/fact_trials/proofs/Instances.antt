-- The empty tuple over the current instance of a completion.
use Rattle.std.proofs.Common.{◌≡◌, List, [], subst, sym}
use Rattle.answer_laws.specs.Answered.{IsAnswerIn}
use Rattle.currency_base.specs.declared.value.Value.{Value}
use Rattle.query_model.specs.Answers.{IsAnswer}
use Rattle.query_model.specs.declared.query.Query.{Query}
use Rattle.spec_model.specs.Completion.{Rankings}
use Rattle.spec_model.specs.Current.{IsCurrentInstance}
use Rattle.spec_model.specs.declared.relation.Relation.{Relation}
use Rattle.ucq_answers.specs.Planned.{IndexedQuery}

-- a completion has one current instance
abbrev pub OneInstance : Type 0
OneInstance = (relations : List Relation) → (c : Rankings) → (one other : List (List (List Value)))
    → IsCurrentInstance relations c one → IsCurrentInstance relations c other → one ≡ other

pub over_instance : OneInstance → (relations : List Relation) (query : Query) (c : Rankings) (instance : List (List (List Value)))
    (ix : IndexedQuery) → IsCurrentInstance relations c instance → ix ≡ record { query = query; instance = instance }
    → IsAnswerIn relations query [] c → IsAnswer ix.query ix.instance []
over_instance one relations query c instance ix current same is =
    subst (λ (x : IndexedQuery). IsAnswer x.query x.instance []) (sym same)
    (subst (λ (x : List (List (List Value))). IsAnswer query x []) (one relations c is.instance instance is.is_current current)
    is.is_answer)
