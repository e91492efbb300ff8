-- What is printed of a script's entries, one after another.
use Rattle.std.specs.Prelude.{◌≡◌, ◌⊎◌, ◌||◌, ℕ, Bool, true, false, not, List, [], ◌∷◌, ◌++◌, Some, Ok, Err, slice_get}
use Rattle.answer_texts.specs.Answers.{answer_text}
use Rattle.command_stages.specs.Named.{IsDeterminedTrouble}
use Rattle.command_stages.specs.Stages.{IsQuestionOf}
use Rattle.command_stages.specs.declared.trouble.Trouble.{Trouble}
use Rattle.currency_ask.specs.declared.fault.AskFault.TheVariants as ask
use Rattle.currency_session.specs.Sessions.{Replies, Session}
use Rattle.currency_session.specs.declared.reply.Reply.{Reply}
use Rattle.currency_session.specs.declared.reply.Reply.TheVariants.{Kept, Open}
use Rattle.program_words.specs.Words.{SessionSaid}
use Rattle.question_syntax.specs.declared.trees.QuestionTree.{QuestionTree}
use Rattle.report_model.specs.Verdicts.{is_decided, kind_of}
use Rattle.report_model.specs.declared.report.Report.{Report}
use Rattle.report_verify.specs.Right.{IsRight}
use Rattle.script_syntax.specs.declared.trees.Entry.{Entry}
use Rattle.script_syntax.specs.declared.trees.EntryTree.{EntryTree}
use Rattle.script_syntax.specs.declared.trees.EntryTree.TheVariants as entry
use Rattle.session_entries.specs.Entries.{entry_due}
use Rattle.session_entries.specs.declared.fault.EntryFault.{EntryFault}
use Rattle.spec_model.specs.Completion.{Rankings}
use Rattle.spec_model.specs.Spec.{Spec}
use Rattle.spec_model.specs.declared.question.Question.{Question}
use Rattle.session_command.specs.Texts.{accepted_text, end_text, fault_line, limit_line, reply_text, trouble_line}

-- what an entry comes to: the text that is printed of it, the session after it, and whether its reply is that the search was cut
-- off
pub record Step : Type 0 where
  pub text : List ℕ
  pub next : Session
  pub undecided : Bool

-- ---- edits

-- the edit is done, and what is kept stays
pub record IsAccepted (s : Session) (e : Entry) (step : Step) : Type 0 where
  pub spec : Spec
  pub due : entry_due s.spec e.tree ≡ Ok spec
  pub next : step.next ≡ record s { spec = spec }
  pub text : step.text ≡ accepted_text e.line
  pub decided : step.undecided ≡ false

-- the edit is refused, and nothing changes
pub record IsRefused (script : List ℕ) (s : Session) (e : Entry) (step : Step) : Type 0 where
  pub fault : EntryFault
  pub due : entry_due s.spec e.tree ≡ Err fault
  pub next : step.next ≡ s
  pub text : step.text ≡ fault_line script e.line fault
  pub decided : step.undecided ≡ false

-- ---- questions

-- the report that a reply is
abbrev pub IsReplyReport : Session → Reply → Report → Type 0
IsReplyReport next (Kept place) r = slice_get next.kept place ≡ Some r
IsReplyReport next (Open report) r = report ≡ r

-- the question is replied to: with a report that shows its verdict for the specification as it is then, and whose verdict is
-- right if it is a decided one
pub record IsReplied (a : SessionSaid) (s : Session) (line : ℕ) (q : Question) (step : Step) : Type 0 where
  pub reply : Reply
  pub replies : Replies s step.next q a.budget (Ok reply)
  pub report : Report
  pub is_report : IsReplyReport step.next reply report
  pub right : is_decided (kind_of report.verdict) ≡ true → IsRight s.spec q report.verdict
  pub text : step.text ≡ reply_text line ++ answer_text s.spec.relations a.brief report
  pub decided : step.undecided ≡ not (is_decided (kind_of report.verdict))

-- the query has more answers than are gone through
pub record HasTooManyAnswers (a : SessionSaid) (s : Session) (line : ℕ) (q : Question) (step : Step) : Type 0 where
  pub completion : Rankings
  pub replies : Replies s step.next q a.budget (Err (ask.TooMany completion))
  pub text : step.text ≡ limit_line 3 line
  pub decided : step.undecided ≡ false

-- the question is refused, and nothing changes
pub record IsQuestionRefused (told : List (List ℕ × List ℕ)) (a : SessionSaid) (s : Session) (line : ℕ) (t : QuestionTree)
    (step : Step) : Type 0 where
  pub trouble : Trouble
  pub due : IsQuestionOf told s.spec.relations a.script t (Err trouble)
  pub determined : IsDeterminedTrouble trouble
  pub next : step.next ≡ s
  pub text : step.text ≡ trouble_line line trouble
  pub decided : step.undecided ≡ false

-- the question is bound, and replied to, or has too many answers; or it is refused
abbrev pub IsAsked : List (List ℕ × List ℕ) → SessionSaid → Session → ℕ → QuestionTree → Step → Type 0
IsAsked told a s line t step =
    ((q : Question) × IsQuestionOf told s.spec.relations a.script t (Ok q)
    × (IsReplied a s line q step ⊎ HasTooManyAnswers a s line q step))
    ⊎ IsQuestionRefused told a s line t step

-- ---- entries

-- what an entry of this tree comes to
abbrev pub IsDoneBy : EntryTree → List (List ℕ × List ℕ) → SessionSaid → Session → Entry → Step → Type 0
IsDoneBy (entry.Ask t) told a s e step = IsAsked told a s e.line t step
IsDoneBy other told a s e step = IsAccepted s e step ⊎ IsRefused a.script s e step

-- what an entry comes to
abbrev pub IsEntryDone : List (List ℕ × List ℕ) → SessionSaid → Session → Entry → Step → Type 0
IsEntryDone told a s e step = IsDoneBy e.tree told a s e step

-- what is printed of entries from a session on, to the end, and whether a reply among them is that the search was cut off
abbrev pub IsTranscript : List (List ℕ × List ℕ) → SessionSaid → Session → List Entry → List ℕ → Bool → Type 0
IsTranscript told a s [] text undecided = (text ≡ end_text) × (undecided ≡ false)
IsTranscript told a s (e ∷ es) text undecided =
    (step : Step) × (rest : List ℕ) × (later : Bool) × IsEntryDone told a s e step × IsTranscript told a step.next es rest later
    × (text ≡ step.text ++ rest) × (undecided ≡ step.undecided || later)
