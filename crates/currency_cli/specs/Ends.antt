-- How the program ends: with which status, and what its sink got.
use Rattle.std.specs.Prelude.{◌≡◌, ◌⊎◌, ℕ, List, Option, Some, IfSome, Result, Ok, Err}
use Rattle.std.specs.Io.KnownBytes.{Appends}
use Rattle.ask_command.specs.Asked.{IsAnswerPrinted, IsAskDenied, IsAskSpent}
use Rattle.certain_table.specs.Table.{IsCertainTabled, IsTableBare, IsTableShort}
use Rattle.command_stages.specs.Outcomes.{output_of, status_of}
use Rattle.command_stages.specs.Texts.{trouble_text, trouble_status}
use Rattle.command_stages.specs.declared.done.Done.{Done}
use Rattle.command_stages.specs.declared.done.Ending.{Ending}
use Rattle.command_stages.specs.declared.done.Ending.TheVariants.{Printed, Decided, Denied, Undecided, Tabled, Inconsistent, Open}
use Rattle.command_stages.specs.declared.trouble.Trouble.{Trouble}
use Rattle.command_stages.specs.declared.trouble.Trouble.TheVariants.{Limit, ReadFault}
use Rattle.conflicts_command.specs.Found.{AreConflictsPrinted}
use Rattle.currency_cli.specs.Due.{IsDue, IsReadDue}
use Rattle.currency_cli.specs.Words.{command_for}
use Rattle.currency_edge.specs.Fault.{Rose}
use Rattle.currency_edge.specs.Sink.{AppendsPrefix}
use Rattle.explain_command.specs.Explained.{IsExplainPrinted}
use Rattle.forced_command.specs.Forced.{AreForcedListed}
use Rattle.golden_command.specs.Golden.{IsGoldenPrinted}
use Rattle.possible_command.specs.Possible.{IsPossiblePrinted}
use Rattle.possible_table.specs.Table.{IsPossibleTableBare, IsPossibleTableShort, IsPossibleTabled}
use Rattle.program_words.specs.Words.{AskFor, CertainTableFor, CommandSaid, ConflictsIn, ExplainFor, ForcedOf, GoldenIn}
use Rattle.program_words.specs.Words.{PossibleFor, PossibleTableFor, SessionOver, TrialOf, VerifyOf}
use Rattle.report_model.specs.declared.verdict.VerdictKind.{VerdictKind}
use Rattle.session_command.specs.Sessions.{IsSessionPrinted}
use Rattle.trial_command.specs.Trial.{IsTrialPrinted, IsTrialSpent}
use Rattle.verify_command.specs.Judged.{accepted_text}
use Rattle.verify_command.specs.Shown.{IsShownRight}

-- the status of an outcome whose text met a failing sink: a refusal comes earlier, so it keeps its own
abbrev pub failed_status_of : Result Done Trouble → ℕ
failed_status_of (Ok d) = 8
failed_status_of (Err e) = trouble_status e

-- an outcome ends with a status, its text written whole; or the sink failed, or memory ran out, after a prefix of it
abbrev pub EndsWith : Option (List ℕ) → Option (List ℕ) → ℕ → ℕ → Result Done Trouble → ℕ → Type 0
EndsWith old new before now outcome status =
    ((status ≡ status_of outcome) × Appends old new (output_of outcome))
    ⊎ (((status ≡ failed_status_of outcome) × Rose before now × AppendsPrefix old new (output_of outcome))
    ⊎ ((status ≡ 9) × AppendsPrefix old new (output_of outcome)))

-- ---- the job was done

-- what is told where a command's job is done, and the text that is written
abbrev pub IsJobDone : List (List ℕ × List ℕ) → CommandSaid → List ℕ → Type 0
IsJobDone told (VerifyOf v) text = (kind : VerdictKind) × IsShownRight told v kind × (text ≡ accepted_text kind)
IsJobDone told (AskFor a) text = IsAnswerPrinted told a text Decided
IsJobDone told (ForcedOf name) text = AreForcedListed told name text
IsJobDone told (TrialOf size) text = IsTrialPrinted size text Decided
IsJobDone told (ExplainFor e) text = IsExplainPrinted told e text Decided
IsJobDone told (ConflictsIn c) text = AreConflictsPrinted told c text Decided
IsJobDone told (GoldenIn g) text = IsGoldenPrinted told g text Tabled
IsJobDone told (PossibleFor p) text = IsPossiblePrinted told p text Decided
IsJobDone told (CertainTableFor t) text = IsCertainTabled told t text
IsJobDone told (PossibleTableFor t) text = IsPossibleTabled told t text
IsJobDone told (SessionOver a) text = IsSessionPrinted told a text Decided

-- the words say a command whose job is done: the documents show what is told, and the sink got the text
pub record IsDone (texts : Option (List (List ℕ × List ℕ))) (count : ℕ) (words : List (List ℕ))
    (old new : Option (List ℕ)) : Type 0 where
  pub command : CommandSaid
  pub said : command_for count words ≡ Some command
  pub text : List ℕ
  pub done : IfSome texts (λ told. IsJobDone told command text)
  pub written : Appends old new text

-- the answer to a question is no, and the words ask for a status that tells it
abbrev pub IsNo : List (List ℕ × List ℕ) → CommandSaid → List ℕ → Type 0
IsNo told (AskFor a) text = IsAskDenied told a text
IsNo told command text = ⊥

-- the words say a question of which that is so: the sink got the text of its answer
pub record IsDenied (texts : Option (List (List ℕ × List ℕ))) (count : ℕ) (words : List (List ℕ))
    (old new : Option (List ℕ)) : Type 0 where
  pub command : CommandSaid
  pub said : command_for count words ≡ Some command
  pub text : List ℕ
  pub printed : IfSome texts (λ told. IsNo told command text)
  pub written : Appends old new text

-- a question of the command was not decided: this is the whole report, whose log has as many counted steps as the
-- budget, each new, and is open
abbrev pub IsSpent : List (List ℕ × List ℕ) → CommandSaid → List ℕ → Type 0
IsSpent told (AskFor ask) text = IsAskSpent told ask text
IsSpent told (TrialOf size) text = IsTrialSpent size text
IsSpent told (ExplainFor e) text = IsExplainPrinted told e text Undecided
IsSpent told (ConflictsIn c) text = AreConflictsPrinted told c text Undecided
IsSpent told (GoldenIn g) text = IsGoldenPrinted told g text Open
IsSpent told (PossibleFor p) text = IsPossiblePrinted told p text Undecided
IsSpent told (CertainTableFor t) text = IsTableShort told t text
IsSpent told (PossibleTableFor t) text = IsPossibleTableShort told t text
IsSpent told (SessionOver a) text = IsSessionPrinted told a text Undecided
IsSpent told command text = ⊥

-- the words ask a question that was not decided: the sink got the whole report
pub record IsUndecided (texts : Option (List (List ℕ × List ℕ))) (count : ℕ) (words : List (List ℕ))
    (old new : Option (List ℕ)) : Type 0 where
  pub command : CommandSaid
  pub said : command_for count words ≡ Some command
  pub text : List ℕ
  pub printed : IfSome texts (λ told. IsSpent told command text)
  pub written : Appends old new text

-- a table was asked for, and there is no consistent completion of which it could tell
abbrev pub IsBare : List (List ℕ × List ℕ) → CommandSaid → List ℕ → Type 0
IsBare told (GoldenIn g) text = IsGoldenPrinted told g text Inconsistent
IsBare told (CertainTableFor t) text = IsTableBare told t text
IsBare told (PossibleTableFor t) text = IsPossibleTableBare told t text
IsBare told command text = ⊥

-- the words ask for a table of which that is so: the sink got the text that says it
pub record IsInconsistent (texts : Option (List (List ℕ × List ℕ))) (count : ℕ) (words : List (List ℕ))
    (old new : Option (List ℕ)) : Type 0 where
  pub command : CommandSaid
  pub said : command_for count words ≡ Some command
  pub text : List ℕ
  pub printed : IfSome texts (λ told. IsBare told command text)
  pub written : Appends old new text

-- ---- the other way round

-- a job that ends so has this status: an answer may be decided or not, with a no that the status tells or without one, and a
-- query may have more answers over one completion than are gone through, and fewer over another; a table may be whole or not,
-- or there is nothing that it could tell of, or, where it is one of answers, they are too many over one completion
abbrev pub HasEndStatus : Ending → ℕ → Type 0
HasEndStatus Printed status = status ≡ 0
HasEndStatus Decided status = (status ≡ 0) ⊎ ((status ≡ 3) ⊎ (status ≡ 6))
HasEndStatus Denied status = (status ≡ 1) ⊎ (status ≡ 3)
HasEndStatus Undecided status = (status ≡ 1) ⊎ ((status ≡ 0) ⊎ ((status ≡ 3) ⊎ (status ≡ 6)))
HasEndStatus Tabled status = (status ≡ 0) ⊎ ((status ≡ 3) ⊎ ((status ≡ 10) ⊎ (status ≡ 6)))
HasEndStatus Inconsistent status = (status ≡ 0) ⊎ ((status ≡ 3) ⊎ (status ≡ 10))
HasEndStatus Open status = (status ≡ 0) ⊎ ((status ≡ 3) ⊎ ((status ≡ 10) ⊎ (status ≡ 6)))

-- an outcome has a status, its text being written
abbrev pub HasStatus : Result Done Trouble → ℕ → Type 0
HasStatus (Ok d) status = HasEndStatus d.ending status
HasStatus (Err e) status = (status ≡ trouble_status e) ⊎ ((e ≡ Limit 3) × ((status ≡ 0) ⊎ (status ≡ 3)))

-- the status of an outcome whose text met a failing sink
abbrev pub HasFailedStatus : Result Done Trouble → ℕ → Type 0
HasFailedStatus (Ok d) status = status ≡ 8
HasFailedStatus (Err e) status = (status ≡ trouble_status e) ⊎ ((e ≡ Limit 3) × (status ≡ 8))

-- where an outcome is due, the program ends with its status; or with the one for its text met by a failing sink, or for a
-- document that could not be read, both where the count of faults rose; or memory ran out
abbrev pub ComesTo : Result Done Trouble → ℕ → ℕ → ℕ → ℕ → ℕ → Type 0
ComesTo outcome reads_before reads_now writes_before writes_now status =
    HasStatus outcome status
    ⊎ ((HasFailedStatus outcome status × Rose writes_before writes_now)
    ⊎ (((status ≡ 7) × Rose reads_before reads_now)
    ⊎ (status ≡ 9)))

-- a status of a refusal: of the words, a report, a document or a bound
abbrev pub IsRefusal : ℕ → Type 0
IsRefusal status = (status ≡ 2) ⊎ ((status ≡ 4) ⊎ ((status ≡ 5) ⊎ (status ≡ 6)))

-- a trouble with this status is due
abbrev pub RefusalDue : List (List ℕ × List ℕ) → ℕ → List (List ℕ) → ℕ → Type 0
RefusalDue told count words status = (e : Trouble) × IsDue told count words (Err e) × (status ≡ trouble_status e)

-- the document that could not be read was due, and its name was written, whole or up to a prefix
pub record NamesUnread (texts : Option (List (List ℕ × List ℕ))) (count : ℕ) (words : List (List ℕ))
    (old new : Option (List ℕ)) : Type 0 where
  pub name : List ℕ
  pub due : IfSome texts (λ told. IsReadDue told count words name)
  pub text : AppendsPrefix old new (trouble_text (ReadFault name))

-- a job that is due was done, and the sink failed before it had the whole text, of which it got a front
pub record IsCutShort (texts : Option (List (List ℕ × List ℕ))) (count : ℕ) (words : List (List ℕ))
    (old new : Option (List ℕ)) : Type 0 where
  pub done : Done
  pub due : IfSome texts (λ told. IsDue told count words (Ok done))
  pub text : AppendsPrefix old new done.text
