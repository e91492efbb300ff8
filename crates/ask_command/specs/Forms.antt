-- How an answer is told: its text, and how the command ends.
use Rattle.std.specs.Prelude.{ℕ, Bool, true, false, ◌&&◌, if◌then◌else◌, List}
use Rattle.command_stages.specs.Endings.{ending_of}
use Rattle.command_stages.specs.declared.done.Done.{Done}
use Rattle.command_stages.specs.declared.done.Ending.{Ending}
use Rattle.command_stages.specs.declared.done.Ending.TheVariants.{Denied}
use Rattle.program_words.specs.Words.{AskSaid}
use Rattle.program_words.specs.declared.command.AnswerForm.{AnswerForm}
use Rattle.program_words.specs.declared.command.AnswerForm.TheVariants as form
use Rattle.report_model.specs.Verdicts.{is_decided, kind_of}
use Rattle.report_model.specs.declared.report.Report.{Report}
use Rattle.report_model.specs.declared.verdict.VerdictKind.{VerdictKind}
use Rattle.report_model.specs.declared.verdict.VerdictKind.TheVariants as kind
use Rattle.report_write.specs.Pieces.{verdict_pieces}
use Rattle.spec_model.specs.declared.relation.Relation.{Relation}
use Rattle.text_write.specs.Pieces.{text_of}
use Rattle.answer_texts.specs.Answers.{answer_text}

-- the text of a report in a form
abbrev pub form_text : List Relation → AnswerForm → Report → List ℕ
form_text relations form.Whole r = answer_text relations false r
form_text relations form.Brief r = answer_text relations true r
form_text relations form.Verdict r = text_of (verdict_pieces relations r.verdict)

-- an answer of no: there is no consistent completion, or in one of them a pair fails, or two differ
abbrev pub is_no : VerdictKind → Bool
is_no kind.Inconsistent = true
is_no kind.NotCertain = true
is_no kind.NotSame = true
is_no other = false

-- how a question ends whose verdict is of this kind, where the status is to tell an answer of no, or not
abbrev pub ask_ending : Bool → VerdictKind → Ending
ask_ending exit k = if exit && is_no k then Denied else ending_of (is_decided k)

-- what a question comes to that this report answers
abbrev pub asked_done : List Relation → AskSaid → Report → Done
asked_done relations a r = record {
  text = form_text relations a.form r;
  ending = ask_ending a.exit (kind_of r.verdict);
}
