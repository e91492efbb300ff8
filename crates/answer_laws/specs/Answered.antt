-- Tuples that are answers of a query over the current instance of a completion.
use Rattle.std.specs.Prelude.{List}
use Rattle.currency_base.specs.declared.value.Value.{Value}
use Rattle.query_model.specs.Answers.{IsAnswer}
use Rattle.query_model.specs.declared.query.Query.{Query}
use Rattle.spec_model.specs.Completion.{Rankings}
use Rattle.spec_model.specs.Current.{IsCurrentInstance}
use Rattle.spec_model.specs.declared.relation.Relation.{Relation}

-- the tuple is an answer over the current instance of a completion
pub record IsAnswerIn (relations : List Relation) (query : Query) (tuple : List Value) (c : Rankings) : Type 0 where
  pub instance : List (List (List Value))
  pub is_current : IsCurrentInstance relations c instance
  pub is_answer : IsAnswer query instance tuple
