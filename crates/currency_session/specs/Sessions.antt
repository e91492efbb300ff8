-- Sessions: what is kept, and what a reply is.
use Rattle.std.specs.Prelude.{◌≡◌, ◌⊎◌, ◌≤◌, ◌+◌, ◌-◌, ◌^◌, ℕ, true, false, min, nat_lt, List, [], ◌∷◌, ◌++◌, drop, take, length, All, Option, Some, Result, Ok, Err, if◌then◌else◌, slice_get}
use Rattle.currency_ask.specs.Answered.{HasTooMany}
use Rattle.currency_ask.specs.Reported.{IsReported}
use Rattle.currency_ask.specs.declared.fault.AskFault.{AskFault}
use Rattle.currency_ask.specs.declared.fault.AskFault.TheVariants.{NoMemory, TooMany}
use Rattle.report_model.specs.Verdicts.{is_decided, kind_of}
use Rattle.report_model.specs.declared.report.Report.{Report}
use Rattle.report_verify.specs.Right.{IsRight}
use Rattle.report_verify.specs.Shown.{ShowsVerdict}
use Rattle.report_write.specs.Writable.{IsWritableReport}
use Rattle.spec_model.specs.Completion.{Rankings}
use Rattle.spec_model.specs.Spec.{Spec}
use Rattle.spec_model.specs.declared.question.Question.{Question}
use Rattle.spec_model.specs.declared.relation.Relation.{Relation}
use Rattle.currency_session.specs.declared.reply.Reply.{Reply}
use Rattle.currency_session.specs.declared.reply.Reply.TheVariants.{Kept, Open}
use Rattle.currency_session.specs.declared.start.Start.{Start}
use Rattle.currency_session.specs.Starts.{IsStart}

-- a specification, the reports that are kept, the oldest first, and how often one of them was the reply
pub record Session : Type 0 where
  pub spec : Spec
  pub kept : List Report
  pub reused : ℕ

-- a report that may be kept: it is decided, and can be written
pub record IsKeptReport (relations : List Relation) (r : Report) : Type 0 where
  pub decided : is_decided (kind_of r.verdict) ≡ true
  pub writable : IsWritableReport relations r

-- what is kept: at most four such reports
pub record AreKept (relations : List Relation) (kept : List Report) : Type 0 where
  pub few : length kept ≤ 4
  pub each : All (IsKeptReport relations) kept

-- what a session holds of a specification: such reports, and what a search may start from
pub record IsHeld (s : Spec) (reports : List Report) (from : Start) : Type 0 where
  pub kept : AreKept s.relations reports
  pub start : IsStart s from

-- none of these reports shows its verdict
abbrev pub NoneShows : Spec → Question → List Report → Type 0
NoneShows s q kept = All (λ r. ShowsVerdict s q r → ⊥) kept

-- the first of these reports that shows its verdict
pub record IsFirstShown (s : Spec) (q : Question) (kept : List Report) (place : ℕ) : Type 0 where
  pub report : Report
  pub is_report : slice_get kept place ≡ Some report
  pub shows : ShowsVerdict s q report
  pub before : NoneShows s q (take place kept)

-- the kept reports without the oldest, where there are four
abbrev pub making_room : List Report → List Report
making_room kept = if nat_lt 3 (length kept) then drop 1 kept else kept

-- what becomes of a report that a search gives: a decided one is put last, after the oldest was dropped where there are four,
-- and is the reply at its place; one that is not decided is handed out
abbrev pub IsPut : List Report → List Report → Report → Reply → Type 0
IsPut old new report (Kept place) =
    (is_decided (kind_of report.verdict) ≡ true) × (place ≡ length (making_room old))
    × (new ≡ making_room old ++ report ∷ [])
IsPut old new report (Open r) = (is_decided (kind_of report.verdict) ≡ false) × (r ≡ report) × (new ≡ old)

-- ---- replies

-- a kept report is the reply
pub record IsReused (old new : Session) (q : Question) (place : ℕ) : Type 0 where
  pub first : IsFirstShown old.spec q old.kept place
  pub counted : new ≡ record old { reused = min (old.reused + 1) (2 ^ 64 - 1) }

-- no kept report shows its verdict: a new one is the reply, and is kept
pub record IsNewlyKept (old new : Session) (q : Question) (budget place : ℕ) : Type 0 where
  pub none_shows : NoneShows old.spec q old.kept
  pub report : Report
  pub answer : IsReported old.spec q budget report
  pub decided : is_decided (kind_of report.verdict) ≡ true
  pub is_last : place ≡ length (making_room old.kept)
  pub kept : new ≡ record old { kept = making_room old.kept ++ report ∷ [] }

-- no kept report shows its verdict, and the search was cut off
pub record IsOpenReply (old new : Session) (q : Question) (budget : ℕ) (r : Report) : Type 0 where
  pub none_shows : NoneShows old.spec q old.kept
  pub answer : IsReported old.spec q budget r
  pub undecided : is_decided (kind_of r.verdict) ≡ false
  pub same : new ≡ old

-- no kept report shows its verdict, and the query has too many answers
pub record IsTooManyReply (old new : Session) (q : Question) (c : Rankings) : Type 0 where
  pub none_shows : NoneShows old.spec q old.kept
  pub too_many : HasTooMany old.spec q c
  pub same : new ≡ old

-- what a question is answered with, and what the session is then
abbrev pub Replies : Session → Session → Question → ℕ → Result Reply AskFault → Type 0
Replies old new q budget (Ok (Kept place)) = IsReused old new q place ⊎ IsNewlyKept old new q budget place
Replies old new q budget (Ok (Open r)) = IsOpenReply old new q budget r
Replies old new q budget (Err (TooMany c)) = IsTooManyReply old new q c
Replies old new q budget (Err NoMemory) = new ≡ old

-- ---- the report of a reply

-- the report of a reply: the one that is kept at its place, or the one that is handed out
abbrev pub reply_report : Session → Reply → Option Report
reply_report session (Kept place) = slice_get session.kept place
reply_report session (Open r) = Some r

-- a reply has a report, whose verdict is right for a specification, if one is claimed
pub record IsRightReply (s : Spec) (q : Question) (session : Session) (reply : Reply) : Type 0 where
  pub report : Report
  pub is_report : reply_report session reply ≡ Some report
  pub right : is_decided (kind_of report.verdict) ≡ true → IsRight s q report.verdict
