-- What `trial` comes to: the questions about a generated specification, answered in turn.
use Rattle.std.specs.Prelude.{◌≡◌, ◌⊎◌, ◌++◌, ◌*◌, ℕ, true, false, List, [], ◌∷◌, length, take, codes, Some, slice_get, Result, Ok, Err}
use Rattle.std.specs.Fmt.{decimal}
use Rattle.std.specs.List.{AllZip}
use Rattle.currency_ask.specs.Answered.{HasTooMany}
use Rattle.report_model.specs.Verdicts.{is_decided, kind_of, kind_text}
use Rattle.report_model.specs.declared.report.Report.{Report}
use Rattle.report_model.specs.declared.verdict.Verdict.{Verdict}
use Rattle.report_model.specs.declared.verdict.Verdict.TheVariants as verdict
use Rattle.report_write.specs.Pieces.{report_pieces}
use Rattle.spec_model.specs.Completion.{Rankings}
use Rattle.spec_model.specs.Spec.{Spec}
use Rattle.spec_model.specs.declared.question.Question.{Question}
use Rattle.spec_model.specs.declared.relation.Relation.{Relation}
use Rattle.text_write.specs.Pieces.{text_of}
use Rattle.trial_documents.specs.Documents.{documents}
use Rattle.command_stages.specs.Stages.{Then, IsQuestionRead, IsSpecRead}
use Rattle.answer_texts.specs.Answers.{IsAnswer, IsShort}
use Rattle.command_stages.specs.declared.done.Ending.{Ending}
use Rattle.command_stages.specs.declared.done.Ending.TheVariants.{Decided, Undecided}
use Rattle.command_stages.specs.declared.done.Done.{Done}
use Rattle.command_stages.specs.declared.trouble.Trouble.{Trouble}
use Rattle.command_stages.specs.declared.trouble.Trouble.TheVariants as trouble

-- how many clauses may be learned for each question
abbrev pub trial_budget : ℕ
trial_budget = 10000000

-- ---- the summary

-- a line of a text and a number
abbrev pub number_line : List ℕ → ℕ → List ℕ
number_line said number = said ++ (decimal number ++ 10 ∷ [])

-- the line of a verdict: its kind, and how many answers it has, where it is one of answers
abbrev pub verdict_line : Verdict → List ℕ
verdict_line (verdict.Answers tuples) = number_line (codes "answers ") (length tuples)
verdict_line v = kind_text (kind_of v) ++ 10 ∷ []

-- the line of a report
abbrev pub report_line : Report → List ℕ
report_line r = verdict_line r.verdict

-- the lines of reports
abbrev pub report_lines : List Report → List ℕ
report_lines [] = []
report_lines (r ∷ rs) = report_line r ++ report_lines rs

-- the lines before those: the number of entities, and of rows
abbrev pub head_text : ℕ → List ℕ
head_text size = number_line (codes "trial ") size ++ number_line (codes "rows ") (16 * size)

-- the summary
abbrev pub summary_text : ℕ → List Report → List ℕ
summary_text size reports = head_text size ++ report_lines reports

-- ---- the answers

-- a question is decided by a report
pub record IsDecided (s : Spec) (question : Question) (report : Report) : Type 0 where
  pub answer : IsAnswer s question trial_budget report
  pub decided : is_decided (kind_of report.verdict) ≡ true

-- each question is decided by its report
abbrev pub AreDecided : Spec → List Question → List Report → Type 0
AreDecided s questions reports = AllZip (IsDecided s) questions reports

-- all questions are decided, and the summary is told
pub record AreSummed (size : ℕ) (s : Spec) (questions : List Question) (outcome : Result Done Trouble) : Type 0 where
  pub reports : List Report
  pub decided : AreDecided s questions reports
  pub is_text : outcome ≡ Ok (record { text = summary_text size reports; ending = Decided })

-- the budget is spent for the first question that is not decided, and its whole report is told
pub record IsSpentAt (s : Spec) (questions : List Question) (outcome : Result Done Trouble) : Type 0 where
  pub place : ℕ
  pub question : Question
  pub asked : slice_get questions place ≡ Some question
  pub earlier : List Report
  pub decided : AreDecided s (take place questions) earlier
  pub report : Report
  pub answer : IsAnswer s question trial_budget report
  pub undecided : is_decided (kind_of report.verdict) ≡ false
  pub is_text : outcome ≡ Ok (record { text = text_of (report_pieces s.relations report); ending = Undecided })

-- one of the questions is a query that has more answers over a consistent completion than are gone through
pub record IsPastLimit (s : Spec) (questions : List Question) (outcome : Result Done Trouble) : Type 0 where
  pub place : ℕ
  pub question : Question
  pub asked : slice_get questions place ≡ Some question
  pub completion : Rankings
  pub too_many : HasTooMany s question completion
  pub is_limit : outcome ≡ Err (trouble.Limit 3)

-- the job: the questions are answered in turn
abbrev pub AreTried : ℕ → Spec → List Question → Result Done Trouble → Type 0
AreTried size s questions outcome = AreSummed size s questions outcome ⊎
    (IsSpentAt s questions outcome ⊎ IsPastLimit s questions outcome)

-- ---- the stages

-- the four questions
abbrev pub AreQuestionsRead : List (List ℕ × List ℕ) → List Relation → Result (List Question) Trouble → Type 0
AreQuestionsRead told relations =
    Then (IsQuestionRead told relations (codes "q1")) (λ a.
    Then (IsQuestionRead told relations (codes "q2")) (λ b.
    Then (IsQuestionRead told relations (codes "q3")) (λ c.
    Then (IsQuestionRead told relations (codes "q4")) (λ d outcome.
    outcome ≡ Ok (a ∷ b ∷ c ∷ d ∷ [])))))

-- what is due for documents: the specification and the questions are read, by the same stages as for `ask`, and then answered
abbrev pub IsTrialDueOver : List (List ℕ × List ℕ) → ℕ → Result Done Trouble → Type 0
IsTrialDueOver told size =
    Then (IsSpecRead told (codes "spec")) (λ s. Then (AreQuestionsRead told s.relations) (AreTried size s))

-- what is due for a generated specification of so many entities; no document is read of the shelf that is handed in
abbrev pub IsTrialDue : ℕ → Result Done Trouble → Type 0
IsTrialDue size = IsTrialDueOver (documents size) size

-- ---- what is told

-- the generated documents are read as a specification and four questions, by the same stages as those of `ask`, and
-- this is told of the reports that answer them: the summary of four right verdicts; or the whole report for the first
-- question that the budget was spent on
abbrev pub IsTrialPrinted : ℕ → List ℕ → Ending → Type 0
IsTrialPrinted size text ending = IsTrialDue size (Ok (record { text = text; ending = ending }))

-- the generated documents are read as a specification and four questions; each question before one of the four is decided, the
-- budget was spent on that one, and this is the text of the report that says so
pub record IsTrialSpent (size : ℕ) (text : List ℕ) : Type 0 where
  pub printed : IsTrialPrinted size text Undecided
  pub spec : Spec
  pub spec_read : IsSpecRead (documents size) (codes "spec") (Ok spec)
  pub questions : List Question
  pub questions_read : AreQuestionsRead (documents size) spec.relations (Ok questions)
  pub spent : IsSpentAt spec questions (Ok (record { text = text; ending = Undecided }))
  pub short : IsShort spec spent.question trial_budget spent.report.verdict
