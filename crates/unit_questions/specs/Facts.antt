-- Facts: what a question asks of each consistent completion by itself.
use Rattle.std.specs.Prelude.{◌≡◌, List, [], All}
use Rattle.answer_laws.specs.Answered.{IsAnswerIn}
use Rattle.query_model.specs.declared.query.Disjunct.{Disjunct}
use Rattle.query_model.specs.declared.query.Query.{Query}
use Rattle.report_verify.specs.Right.{PairHolds}
use Rattle.spec_model.specs.Completion.{Rankings}
use Rattle.spec_model.specs.Questions.{IsQuestionOn}
use Rattle.spec_model.specs.declared.question.Question.{Question}
use Rattle.spec_model.specs.declared.question.Question.TheVariants as asked
use Rattle.spec_model.specs.declared.relation.Relation.{Relation}

-- a query whose answers have no value, so that the empty tuple is one, or none is
abbrev pub IsBoolean : Query → Type 0
IsBoolean query = All (λ (d : Disjunct). d.head ≡ []) query.disjuncts

-- the fact that a question asks for: none that a completion could have, where it is asked whether one is consistent; that each
-- asked pair holds; that a query with no head has its answer
abbrev pub FactHolds : List Relation → Question → Rankings → Type 0
FactHolds relations asked.Consistent c = ⊥
FactHolds relations (asked.Certain pairs) c = All (λ p. PairHolds p c) pairs
FactHolds relations (asked.Same rels) c = Unit {0}
FactHolds relations (asked.Answers query) c = IsAnswerIn relations query [] c

-- a question for one fact
abbrev pub IsOfFact : Question → Type 0
IsOfFact asked.Consistent = Unit {0}
IsOfFact (asked.Certain pairs) = Unit {0}
IsOfFact (asked.Same rels) = ⊥
IsOfFact (asked.Answers query) = IsBoolean query

-- a question for one fact that can be asked of these relations
pub record IsFactQuestion (relations : List Relation) (q : Question) : Type 0 where
  pub on : IsQuestionOn relations q
  pub of_fact : IsOfFact q
