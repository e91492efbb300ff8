-- What a search has found, and the report of it.
use Rattle.std.specs.Prelude.{◌≡◌, ◌≢◌, ◌+◌, ℕ, List, [], Some, length}
use Rattle.query_model.specs.declared.query.Query.{Query}
use Rattle.common_answers.specs.Common.{AreCommon}
use Rattle.spec_model.specs.Completion.{Rankings}
use Rattle.spec_model.specs.Spec.{Spec}
use Rattle.spec_model.specs.declared.question.Question.{Question}
use Rattle.refutation_log.specs.Counted.{IsOpenLog, counted_steps}
use Rattle.order_search.specs.Searches.{Search}
use Rattle.order_search.specs.declared.outcome.Outcome.{Outcome}
use Rattle.report_model.specs.declared.report.Report.{Report}
use Rattle.report_model.specs.declared.verdict.Verdict.{Verdict}
use Rattle.report_model.specs.declared.verdict.Verdict.TheVariants as verdict
use Rattle.report_verify.specs.Shown.{ShowsVerdict}
use Rattle.report_write.specs.Writable.{IsWritableReport}
use Rattle.report_verify.specs.Asked.{query_of}
use Rattle.currency_ask.specs.Answered.{AreNumberedAnswers, EachLacksOne, IsAnswerWithin, IsDecidedBy, NamesFirst, currents_of}
use Rattle.certain_answers.specs.Deciding.{IsEnd}

-- all that is said of a report that answers a question, within a budget
pub record IsReported (s : Spec) (q : Question) (budget : ℕ) (r : Report) : Type 0 where
  pub shown : ShowsVerdict s q r
  pub writable : IsWritableReport s.relations r
  pub lists : IsAnswerWithin s q budget r
  pub enough : IsDecidedBy s q budget r
  pub first : NamesFirst s q r.verdict

-- a search for a question: its query is posed, if it is one, its variables are numbered, and the tuples whose being
-- answers is numbered are none or the answers over some consistent completion
pub record IsSearchFor (q : Question) (search : Search) : Type 0 where
  pub query : search.posed.query ≡ query_of q
  pub currents : search.wanted.currents ≡ currents_of q
  pub answers : AreNumberedAnswers search.spec q search.posed.answers

-- the search came to an end after all but so many units of the budget
pub record HasEnded (search : Search) (budget : ℕ) (outcome : Outcome) : Type 0 where
  pub left : ℕ
  pub units : counted_steps search.log.steps + left ≡ budget
  pub is_end : IsEnd search left outcome

-- the search has used the whole budget, and its log is open
pub record HasSpent (search : Search) (budget : ℕ) : Type 0 where
  pub counted : counted_steps search.log.steps ≡ budget
  pub open_log : IsOpenLog search.log.steps

-- what a verdict that claims something of every consistent completion lists: one completion, or, of answers, some that
-- have exactly these in common, and of which each after the first lacks one that those before it have
abbrev pub IsListedFor : Spec → Question → Verdict → List Rankings → Type 0
IsListedFor s q verdict.Certain completions = length completions ≡ 1
IsListedFor s q (verdict.Same items) completions = length completions ≡ 1
IsListedFor s q (verdict.Answers tuples) completions =
    (completions ≢ []) × (query : Query) × (query_of q ≡ Some query) × AreCommon s.relations query tuples completions
    × EachLacksOne s q completions
IsListedFor s q v completions = ⊥

-- the report has this verdict and these completions, and nothing else
pub record ListsAlone (v : Verdict) (completions : List Rankings) (r : Report) : Type 0 where
  pub verdict : r.verdict ≡ v
  pub completions_are : r.completions ≡ completions
  pub answers : r.log.answers ≡ []
  pub statements : r.log.statements ≡ []
  pub steps : r.log.steps ≡ []
