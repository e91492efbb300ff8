-- Claims of a verdict, and the completions in which they hold.
use Rattle.std.specs.Prelude.{◌≡◌, List, Some, slice_get}
use Rattle.answer_laws.specs.Answered.{IsAnswerIn}
use Rattle.currency_base.specs.declared.ids.AttrId.{AttrId}
use Rattle.currency_base.specs.declared.ids.EntId.{EntId}
use Rattle.currency_base.specs.declared.ids.RelId.{RelId}
use Rattle.currency_base.specs.declared.value.Value.{Value}
use Rattle.query_model.specs.declared.query.Query.{Query}
use Rattle.report_verify.specs.Asked.{query_of}
use Rattle.report_verify.specs.Right.{PairHolds}
use Rattle.report_verify.specs.Supported.{Claim}
use Rattle.report_verify.specs.Supported.Claim.{Holds, HasValue, HasAnswer}
use Rattle.spec_model.specs.Completion.{Rankings, IsCompletion}
use Rattle.spec_model.specs.Current.{current_value}
use Rattle.spec_model.specs.declared.question.Question.{Question}
use Rattle.spec_model.specs.declared.relation.Relation.{Relation}

-- a value is the current one of an attribute of an entity in a completion
pub record HasCurrent (relations : List Relation) (rel : RelId) (attr : AttrId) (ent : EntId) (value : Value) (c : Rankings)
    : Type 0 where
  pub relation : Relation
  pub is_relation : slice_get relations rel.0 ≡ Some relation
  pub current : current_value c rel.0 relation.rows attr.0 ent.0 ≡ Some value

-- a tuple is an answer of a question's query in a completion
pub record IsAnswered (relations : List Relation) (q : Question) (tuple : List Value) (c : Rankings) : Type 0 where
  pub query : Query
  pub is_query : query_of q ≡ Some query
  pub is_answer : IsAnswerIn relations query tuple c

-- what is claimed holds in a completion
abbrev pub ClaimHolds : List Relation → Question → Claim → Rankings → Type 0
ClaimHolds relations q (Holds p) c = PairHolds p c
ClaimHolds relations q (HasValue rel attr ent value) c = HasCurrent relations rel attr ent value c
ClaimHolds relations q (HasAnswer tuple) c = IsAnswered relations q tuple c

-- what is claimed holds in some completion
pub record HoldsInOne (relations : List Relation) (q : Question) (claim : Claim) : Type 0 where
  pub completion : Rankings
  pub is_completion : IsCompletion relations completion
  pub holds : ClaimHolds relations q claim completion
