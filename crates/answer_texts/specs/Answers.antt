-- Reports that answer questions, and their texts.
use Rattle.std.specs.Prelude.{◌≡◌, ◌⊎◌, ◌&&◌, ℕ, Bool, true, if◌then◌else◌, List}
use Rattle.command_stages.specs.Endings.{ending_of}
use Rattle.command_stages.specs.declared.done.Done.{Done}
use Rattle.command_stages.specs.declared.trouble.Trouble.{Trouble}
use Rattle.command_stages.specs.declared.trouble.Trouble.TheVariants as trouble
use Rattle.currency_ask.specs.Answered.{CountsAnswers, HasTooMany, IsAnswerWithin, IsDecidedBy, NamesFirst, currents_of}
use Rattle.currency_ask.specs.declared.fault.AskFault.{AskFault}
use Rattle.currency_ask.specs.declared.fault.AskFault.TheVariants as ask
use Rattle.currency_report.specs.Reads.{ReadsReport}
use Rattle.currency_report.specs.declared.report.Lines.{Lines}
use Rattle.order_literals.specs.Enough.{IsEnough}
use Rattle.report_model.specs.Verdicts.{is_decided, kind_of}
use Rattle.report_model.specs.declared.report.Report.{Report}
use Rattle.report_model.specs.declared.verdict.Verdict.{Verdict}
use Rattle.report_model.specs.declared.verdict.Verdict.TheVariants.{Undecided}
use Rattle.report_verify.specs.Right.{IsRight}
use Rattle.report_verify.specs.Shown.{ShowsVerdict}
use Rattle.report_write.specs.Pieces.{report_pieces, brief_pieces}
use Rattle.spec_model.specs.Completion.{Rankings}
use Rattle.spec_model.specs.Spec.{Spec}
use Rattle.spec_model.specs.declared.question.Question.{Question}
use Rattle.spec_model.specs.declared.relation.Relation.{Relation}
use Rattle.text_write.specs.Pieces.{text_of}

-- the trouble that a question is not answered
abbrev pub ask_trouble : AskFault → Trouble
ask_trouble (ask.TooMany c) = trouble.Limit 3
ask_trouble ask.NoMemory = trouble.NoMemory

-- a report that answers a question within a budget: it shows its verdict, which is right if it is a decided one; its text is read
-- as the same report; it lists and derives no more than is needed, or what a search that took the whole budget left; and it is
-- decided where the budget is enough; and of asked pairs it names the first that fails
pub record IsAnswer (s : Spec) (question : Question) (budget : ℕ) (r : Report) : Type 0 where
  pub shown : ShowsVerdict s question r
  pub right : is_decided (kind_of r.verdict) ≡ true → IsRight s question r.verdict
  pub lines : Lines
  pub reread : ReadsReport s.relations (text_of (report_pieces s.relations r)) (record { report = r; lines = lines })
  pub within : IsAnswerWithin s question budget r
  pub enough : IsDecidedBy s question budget r
  pub first : NamesFirst s question r.verdict

-- the text of a report: brief where that is asked and it is decided
abbrev pub answer_text : List Relation → Bool → Report → List ℕ
answer_text relations brief r =
    if brief && is_decided (kind_of r.verdict) then text_of (brief_pieces relations r) else text_of (report_pieces relations r)

-- what a question comes to that this report answers
abbrev pub answer_done : List Relation → Bool → Report → Done
answer_done relations brief r = record {
  text = answer_text relations brief r;
  ending = ending_of
      (is_decided (kind_of r.verdict));
}

-- a budget was spent on a question: the verdict says so, and the budget is less than three to the number of the question's
-- variables, however many answers a query has over each consistent completion
abbrev pub IsShort : Spec → Question → ℕ → Verdict → Type 0
IsShort s question budget v =
    (v ≡ Undecided budget) × ((count : Rankings → ℕ) → CountsAnswers s question count → IsEnough s
    (currents_of question) count budget → ⊥)

-- a question about a specification is answered where both are read, decided or not; unless it is a query that has more answers
-- over a consistent completion than are gone through, or memory ran out
abbrev pub ComesToAnswer : Spec → Question → ℕ → Type 0
ComesToAnswer s question status =
    (status ≡ 0) ⊎ ((status ≡ 3) ⊎ (((status ≡ 6) × (c : Rankings) × HasTooMany s question c) ⊎ (status ≡ 9)))
