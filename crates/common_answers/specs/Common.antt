-- The answers that completions have in common.
use Rattle.std.specs.Prelude.{List, All, Contains}
use Rattle.answer_laws.specs.Answered.{IsAnswerIn}
use Rattle.currency_base.specs.declared.value.Value.{Value}
use Rattle.query_model.specs.declared.query.Query.{Query}
use Rattle.spec_model.specs.Completion.{Rankings}
use Rattle.spec_model.specs.declared.relation.Relation.{Relation}

-- exactly the tuples that are answers in each of the completions
pub record AreCommon (relations : List Relation) (query : Query) (tuples : List (List Value))
    (completions : List Rankings) : Type 0 where
  pub each : All (λ tuple. All (IsAnswerIn relations query tuple) completions) tuples
  pub all : (tuple : List Value) → All (IsAnswerIn relations query tuple) completions → Contains tuples tuple
