-- What holds of the log of a search: it is accepted, and can be trimmed and written.
use Rattle.std.specs.Prelude.{◌≡◌, ◌<◌, ◌≤◌, ℕ, List, None, All, Contains, length}
use Rattle.spec_model.specs.Completion.{Rankings, IsCompletion}
use Rattle.spec_model.specs.Spec.{Spec}
use Rattle.refutation_log.specs.Counted.{counted_steps}
use Rattle.refutation_log.specs.declared.log.Log.{Log}
use Rattle.log_axioms.specs.Posed.{Posed}
use Rattle.log_checker.specs.Accepted.{IsAccepted}
use Rattle.refutation_log.specs.Numbered.{IsNumbered}
use Rattle.log_form.specs.Form.{first_fault}
use Rattle.log_trim.specs.Trimmed.{IsTrimmed, IsUsedAnswer, IsUsedVar, AreInPlace, Reaches}
use Rattle.log_trim.specs.declared.trimming.Trimmed.{Trimmed}
use Rattle.refutation_log.specs.Writable.{IsWritable}
use Rattle.report_model.specs.Writable.{IsWritableCompletion}
use Rattle.order_literals.specs.declared.wanted.Wanted.{Wanted}
use Rattle.search_logs.specs.Right.{AreStepsRight}
use Rattle.search_logs.specs.SearchLogs.{IsSearchLog, IsWithin, HasFewSteps, variables}

-- it is accepted
abbrev pub LogsAreAccepted : Type 0
LogsAreAccepted =
    (s : Spec) (posed : Posed) (wanted : Wanted) (log : Log) → IsWithin s → IsSearchLog s posed wanted log
    → IsAccepted s posed.query log

-- it can be checked, and trimmed to any steps of it
abbrev pub LogsAreInPlace : Type 0
LogsAreInPlace =
    (s : Spec) (posed : Posed) (wanted : Wanted) (log : Log) (goals : List ℕ) → IsWithin s → IsSearchLog s posed
    wanted log → HasFewSteps log
    → All (λ goal. goal < length log.steps) goals → IsNumbered log.statements log.steps × AreInPlace log goals

-- it can be written, and is well formed
abbrev pub LogsAreWritable : Type 0
LogsAreWritable =
    (s : Spec) (posed : Posed) (wanted : Wanted) (log : Log) → IsWithin s → IsSearchLog s posed wanted log → HasFewSteps log
    → IsWritable log × (first_fault s.relations log ≡ None)

-- and so can what it is trimmed to
abbrev pub TrimmedAreWritable : Type 0
TrimmedAreWritable =
    (s : Spec) (posed : Posed) (wanted : Wanted) (log : Log) (goals : List ℕ) (trimmed : Trimmed) → IsWithin s
    → IsSearchLog s posed wanted log → HasFewSteps log
    → All (λ goal. goal < length log.steps) goals → IsTrimmed log goals trimmed
    → IsWritable trimmed.log × (first_fault s.relations trimmed.log ≡ None)

-- the statements of what a log is trimmed to are among those that are numbered
abbrev pub TrimmedAreAmong : Type 0
TrimmedAreAmong =
    (s : Spec) (posed : Posed) (wanted : Wanted) (log : Log) (goals : List ℕ) (trimmed : Trimmed) → IsWithin s
    → IsSearchLog s posed wanted log → HasFewSteps log
    → IsTrimmed log goals trimmed → All (Contains (variables s wanted)) trimmed.log.statements

-- each step of what a log is trimmed to is reached from its goals
abbrev pub TrimmedAreReached : Type 0
TrimmedAreReached =
    (log : Log) (goals : List ℕ) (trimmed : Trimmed) → AreInPlace log goals → IsTrimmed log goals trimmed
    → (place : ℕ) → place < length trimmed.log.steps → Reaches trimmed.log.steps trimmed.goals place

-- of what a log is trimmed to, each statement is of a literal of a step that its goals reach, and each answer is named by such
-- a statement
pub record IsAllUsed (trimmed : Trimmed) : Type 0 where
  pub statements : (var : ℕ) → var < length trimmed.log.statements → IsUsedVar trimmed.log.steps trimmed.goals var
  pub answers : (tuple : ℕ) → tuple < length trimmed.log.answers → IsUsedAnswer trimmed.log trimmed.goals tuple

-- it has no more counted steps, and its answers are some of the log's
pub record IsNoMore (log : Log) (trimmed : Trimmed) : Type 0 where
  pub counted : counted_steps trimmed.log.steps ≤ counted_steps log.steps
  pub answers : All (Contains log.answers) trimmed.log.answers

abbrev pub TrimmedAreUsed : Type 0
TrimmedAreUsed = (log : Log) (goals : List ℕ) (trimmed : Trimmed) → IsTrimmed log goals trimmed → IsAllUsed trimmed

abbrev pub TrimmedAreNoMore : Type 0
TrimmedAreNoMore = (log : Log) (goals : List ℕ) (trimmed : Trimmed) → IsTrimmed log goals trimmed → IsNoMore log trimmed

-- of its steps those alone are not counted that may be so, and no hint is idle
abbrev pub SearchLogsAreRight : Type 0
SearchLogsAreRight =
    (s : Spec) (posed : Posed) (wanted : Wanted) (log : Log) → IsSearchLog s posed wanted log → AreStepsRight s log

-- and so it is with what it is trimmed to
abbrev pub TrimmedAreRight : Type 0
TrimmedAreRight =
    (s : Spec) (posed : Posed) (wanted : Wanted) (log : Log) (goals : List ℕ) (trimmed : Trimmed)
    → IsSearchLog s posed wanted log → IsTrimmed log goals trimmed → AreStepsRight s trimmed.log

-- a completion of a specification within its limits can be written
abbrev pub CompletionsAreWritable : Type 0
CompletionsAreWritable = (s : Spec) (c : Rankings) → IsWithin s → IsCompletion s.relations c → IsWritableCompletion s.relations c
