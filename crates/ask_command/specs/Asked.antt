-- What is due for a question about a specification, and what is told.
use Rattle.std.specs.Prelude.{◌≡◌, ◌⊎◌, ℕ, true, List, Result, Ok, Err}
use Rattle.ask_command.specs.Forms.{ask_ending, asked_done, form_text, is_no}
use Rattle.command_stages.specs.Documents.{IsSpecDocumentDue, IsQuestionDue}
use Rattle.command_stages.specs.Stages.{Then, IsSpecRead, IsQuestionRead}
use Rattle.command_stages.specs.declared.done.Done.{Done}
use Rattle.command_stages.specs.declared.done.Ending.{Ending}
use Rattle.command_stages.specs.declared.done.Ending.TheVariants.{Denied, Undecided}
use Rattle.command_stages.specs.declared.trouble.Trouble.{Trouble}
use Rattle.command_stages.specs.declared.trouble.Trouble.TheVariants as trouble
use Rattle.currency_ask.specs.Answered.{HasTooMany}
use Rattle.program_words.specs.Words.{AskSaid}
use Rattle.program_words.specs.declared.command.Ask.{Ask}
use Rattle.report_model.specs.Verdicts.{kind_of}
use Rattle.report_model.specs.declared.report.Report.{Report}
use Rattle.report_write.specs.Pieces.{report_pieces}
use Rattle.spec_model.specs.Completion.{Rankings}
use Rattle.spec_model.specs.Spec.{Spec}
use Rattle.spec_model.specs.declared.question.Question.{Question}
use Rattle.text_write.specs.Pieces.{text_of}
use Rattle.answer_texts.specs.Answers.{ComesToAnswer, IsAnswer, IsShort}
use Rattle.report_stages.specs.Judged.{IsReportSaid, IsJudged}

-- what is asked, with the names of documents as bytes
abbrev pub ask_said : Ask → AskSaid
ask_said a = record {
  spec = a.spec.now;
  question = a.question.now;
  budget = a.budget;
  form = a.form;
  exit = a.exit;
  guide = a.guide;
}

-- the job: a report that answers the question is told; or a query has more answers over a consistent completion than
-- are gone through
abbrev pub IsAnswered : Spec → AskSaid → Question → Result Done Trouble → Type 0
IsAnswered s a question outcome =
    ((r : Report) × IsAnswer s question a.budget r
    × (outcome ≡ Ok (asked_done s.relations a r)))
    ⊎ ((c : Rankings) × HasTooMany s question c × (outcome ≡ Err (trouble.Limit 3)))

-- what is due for a question about a specification
abbrev pub IsAskDue : List (List ℕ × List ℕ) → AskSaid → Result Done Trouble → Type 0
IsAskDue told a = Then (IsSpecRead told a.spec) (λ s. Then (IsQuestionRead told s.relations a.question) (IsAnswered s a))

-- a document is due to be read for `ask`
abbrev pub IsAskDocumentDue : List (List ℕ × List ℕ) → AskSaid → List ℕ → Type 0
IsAskDocumentDue told a name = IsSpecDocumentDue told a.spec name ⊎ IsQuestionDue told a.spec a.question name

-- ---- what is told

-- the documents are read as a specification and a question, and this is the text of a report that answers it; the whole report,
-- read back, is judged to show its verdict, whatever name it has
pub record IsAnswerPrinted (told : List (List ℕ × List ℕ)) (a : AskSaid) (text : List ℕ) (ending : Ending) : Type 0 where
  pub spec : Spec
  pub question : Question
  pub spec_read : IsSpecRead told a.spec (Ok spec)
  pub question_read : IsQuestionRead told spec.relations a.question (Ok question)
  pub report : Report
  pub answer : IsAnswer spec question a.budget report
  pub is_text : text ≡ form_text spec.relations a.form report
  pub ended : ending ≡ ask_ending a.exit (kind_of report.verdict)
  pub verified : (name : List ℕ) → Then (IsReportSaid spec.relations name (text_of (report_pieces spec.relations report)))
      (IsJudged spec question name) (Ok (kind_of report.verdict))

-- the budget was spent
abbrev pub IsAskSpent : List (List ℕ × List ℕ) → AskSaid → List ℕ → Type 0
IsAskSpent told a text = (t : IsAnswerPrinted told a text Undecided) × IsShort t.spec t.question a.budget t.report.verdict

-- the answer is no, and the words ask for a status that tells it
abbrev pub IsAskDenied : List (List ℕ × List ℕ) → AskSaid → List ℕ → Type 0
IsAskDenied told a text =
    (t : IsAnswerPrinted told a text Denied) × (a.exit ≡ true) × (is_no (kind_of t.report.verdict) ≡ true)

-- ---- its status

-- a question is answered as any is, or with the status of an answer of no, where that is asked for
abbrev pub ComesToAsked : Spec → AskSaid → Question → ℕ → Type 0
ComesToAsked s a question status = ((status ≡ 1) × (a.exit ≡ true)) ⊎ ComesToAnswer s question status
