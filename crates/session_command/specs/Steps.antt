-- What is told of entries, one after another: the words of private contracts.
use Rattle.std.specs.Prelude.{◌≡◌, ◌||◌, ◌++◌, ℕ, Bool, not, List}
use Rattle.answer_texts.specs.Answers.{answer_text}
use Rattle.command_stages.specs.Endings.{ending_of}
use Rattle.command_stages.specs.declared.done.Done.{Done}
use Rattle.currency_ask.specs.declared.fault.AskFault.{AskFault}
use Rattle.currency_ask.specs.declared.fault.AskFault.TheVariants as ask
use Rattle.currency_session.specs.Sessions.{Session}
use Rattle.currency_session.specs.declared.reply.Reply.{Reply}
use Rattle.program_words.specs.Words.{SessionSaid}
use Rattle.report_model.specs.Verdicts.{is_decided, kind_of}
use Rattle.report_model.specs.declared.report.Report.{Report}
use Rattle.report_write.specs.Writable.{IsWritableReport}
use Rattle.script_syntax.specs.declared.trees.Entry.{Entry}
use Rattle.spec_model.specs.Completion.{Rankings}
use Rattle.session_command.specs.Sessions.{IsTableDueIn}
use Rattle.session_command.specs.Texts.{header_text, reply_text}
use Rattle.session_command.specs.Transcripts.{IsEntryDone, IsReplyReport, IsTranscript, Step}
use Rattle.session_command.specs.declared.telling.Told.{Told}

-- what an entry comes to of which this is told, and which leaves this session
abbrev pub step_of : Told → Session → Step
step_of t next = record { text = t.text; next = next; undecided = t.undecided }

-- ---- replies

-- a reply whose report can be written
pub record IsWritableReply (session : Session) (reply : Reply) : Type 0 where
  pub report : Report
  pub is_report : IsReplyReport session reply report
  pub writable : IsWritableReport session.spec.relations report

-- what is told of a reply: its report, and whether it is that the search was cut off
pub record IsReplyTold (session : Session) (brief : Bool) (line : ℕ) (reply : Reply) (t : Told) : Type 0 where
  pub report : Report
  pub is_report : IsReplyReport session reply report
  pub text : t.text ≡ reply_text line ++ answer_text session.spec.relations brief report
  pub decided : t.undecided ≡ not (is_decided (kind_of report.verdict))

-- the query has more answers than are gone through
abbrev pub IsTooMany : AskFault → Type 0
IsTooMany fault = (c : Rankings) × (fault ≡ ask.TooMany c)

-- ---- entries

-- one entry more is told of after what was told so far
pub record IsOneMore (told : List (List ℕ × List ℕ)) (a : SessionSaid) (s : Session) (e : Entry) (next : Session)
    (old new : Told) : Type 0 where
  pub step : Step
  pub done : IsEntryDone told a s e step
  pub leaves : step.next ≡ next
  pub text : new.text ≡ old.text ++ step.text
  pub undecided : new.undecided ≡ old.undecided || step.undecided

-- what is told of all entries from a session on, after what was told before
pub record IsToldOf (told : List (List ℕ × List ℕ)) (a : SessionSaid) (s : Session) (entries : List Entry) (old : Told)
    (text : List ℕ) (undecided : Bool) : Type 0 where
  pub body : List ℕ
  pub later : Bool
  pub transcript : IsTranscript told a s entries body later
  pub is_text : text ≡ old.text ++ body
  pub is_undecided : undecided ≡ old.undecided || later

-- some entries were told of since the first session, and what is left goes on from this one: whatever is told of the rest makes
-- what is told of all
abbrev pub GoesOn : List (List ℕ × List ℕ) → SessionSaid → Session → List Entry → Told → Session → List Entry → Told → Type 0
GoesOn told a s entries old now left so_far = (rest : List ℕ) (later : Bool) → IsTranscript told a now left rest later
    → IsToldOf told a s entries old (so_far.text ++ rest) (so_far.undecided || later)

-- a table that what is left names is one that all entries name
abbrev pub GoesOnReading : List (List ℕ × List ℕ) → SessionSaid → Session → List Entry → Session → List Entry → Type 0
GoesOnReading told a s entries now left = (name : List ℕ) → IsTableDueIn told a now left name → IsTableDueIn told a s entries name

-- ---- the end

-- what is done of all entries from a session on: the first line, what is told of them, and the last line
pub record IsDoneOf (told : List (List ℕ × List ℕ)) (a : SessionSaid) (s : Session) (entries : List Entry)
    (d : Done) : Type 0 where
  pub body : List ℕ
  pub undecided : Bool
  pub transcript : IsTranscript told a s entries body undecided
  pub text : d.text ≡ header_text ++ body
  pub ended : d.ending ≡ ending_of (not undecided)
