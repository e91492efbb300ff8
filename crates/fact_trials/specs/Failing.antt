-- What a report tells of a fact: which of the completions that it lists is one in which the fact fails.
use Rattle.std.specs.Prelude.{◌≡◌, ℕ, true, List, [], All, Option, Some, None, length, slice_get}
use Rattle.answer_laws.specs.Answered.{IsAnswerIn}
use Rattle.common_answers.specs.Common.{AreCommon}
use Rattle.currency_base.specs.declared.value.Value.{Value}
use Rattle.query_model.specs.declared.query.Query.{Query}
use Rattle.report_model.specs.Verdicts.{is_decided, kind_of}
use Rattle.report_model.specs.declared.report.Report.{Report}
use Rattle.report_model.specs.declared.verdict.Verdict.TheVariants as verdict
use Rattle.report_verify.specs.Right.{EachConsistent, AreCertainAnswers, IsRight}
use Rattle.report_verify.specs.Shown.{ShowsVerdict}
use Rattle.spec_model.specs.Completion.{Rankings}
use Rattle.spec_model.specs.Consistent.{IsConsistent, IsSatisfiable}
use Rattle.spec_model.specs.Spec.{Spec}
use Rattle.spec_model.specs.declared.question.Asked.{Asked}
use Rattle.spec_model.specs.declared.question.Question.{Question}
use Rattle.spec_model.specs.declared.question.Question.TheVariants as asked
use Rattle.spec_model.specs.declared.relation.Relation.{Relation}
use Rattle.unit_questions.specs.Facts.{FactHolds}
use Rattle.fact_trials.specs.Trials.{IsWithout}

-- the report shows its verdict, which is right, and lists one completion where a pair fails
pub record IsTelling (s : Spec) (q : Question) (report : Report) : Type 0 where
  pub shown : ShowsVerdict s q report
  pub right : is_decided (kind_of report.verdict) ≡ true → IsRight s q report.verdict
  pub one : (p : Asked) → report.verdict ≡ verdict.NotCertain p → length report.completions ≡ 1

-- the tuples are the answers that the question asks for, and those that these consistent completions have in common
pub record AreAnswersOf (s : Spec) (q : Question) (tuples : List (List Value)) (completions : List Rankings) : Type 0 where
  pub query : Query
  pub is_query : q ≡ asked.Answers query
  pub satisfiable : IsSatisfiable s
  pub certain : AreCertainAnswers s query tuples
  pub common : AreCommon s.relations query tuples completions
  pub consistent : All (IsConsistent s) completions

-- the completion at a place is one over which the empty tuple is no answer
pub record LacksAt (relations : List Relation) (query : Query) (completions : List Rankings) (place : ℕ) : Type 0 where
  pub completion : Rankings
  pub is_there : slice_get completions place ≡ Some completion
  pub lacks : IsAnswerIn relations query [] completion → ⊥

-- the completion at a place is consistent, and the fact fails in it
pub record IsWithoutAt (s : Spec) (q : Question) (completions : List Rankings) (place : ℕ) : Type 0 where
  pub completion : Rankings
  pub is_there : slice_get completions place ≡ Some completion
  pub without : IsWithout s q completion

-- the fact holds in every consistent completion, or fails in the one at a place
abbrev pub TellsPlace : Spec → Question → List Rankings → Option ℕ → Type 0
TellsPlace s q completions None = EachConsistent s (FactHolds s.relations q)
TellsPlace s q completions (Some place) = IsWithoutAt s q completions place
