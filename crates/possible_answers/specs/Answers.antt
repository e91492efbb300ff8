-- The tuples that are answers over some consistent completion.
use Rattle.std.specs.Prelude.{List, All, Contains}
use Rattle.answer_laws.specs.Answered.{IsAnswerIn}
use Rattle.currency_base.specs.declared.value.Value.{Value}
use Rattle.query_model.specs.Answers.{AreAscending}
use Rattle.query_model.specs.declared.query.Query.{Query}
use Rattle.spec_model.specs.Completion.{Rankings}
use Rattle.spec_model.specs.Consistent.{IsConsistent}
use Rattle.spec_model.specs.Spec.{Spec}

-- the tuple is an answer over the current instance of some consistent completion
abbrev pub IsPossibleAnswer : Spec → Query → List Value → Type 0
IsPossibleAnswer s query tuple = (c : Rankings) × IsConsistent s c × IsAnswerIn s.relations query tuple c

-- exactly those tuples, ascending
pub record ArePossibleAnswers (s : Spec) (query : Query) (tuples : List (List Value)) : Type 0 where
  pub each : All (IsPossibleAnswer s query) tuples
  pub all : (tuple : List Value) → IsPossibleAnswer s query tuple → Contains tuples tuple
  pub ascending : AreAscending tuples
