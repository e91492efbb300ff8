-- What `trial` comes to, whatever the shelf tells.
use Rattle.std.proofs.Common.{ℕ, List, Option, Some, None, IfOk, IfSome, Result, Ok, Err}
use Rattle.command_stages.specs.Named.{IsDetermined}
use Rattle.command_stages.specs.declared.done.Done.{Done}
use Rattle.command_stages.specs.declared.trouble.Trouble.{Trouble}
use Rattle.currency_cli.specs.Printed.{IsPrinted}
use Rattle.program_words.specs.Words.{TrialOf}
use Rattle.trial_command.specs.Trial.{IsTrialDue}

pub over_any : (texts : Option (List (List ℕ × List ℕ))) (P : Type 0) → P → IfSome texts (λ told. P)
over_any None P h = tt
over_any (Some told) P h = h

pub trial_printed : (texts : Option (List (List ℕ × List ℕ))) (size : ℕ) (outcome : Result Done Trouble) →
    (IsDetermined outcome → IsTrialDue size outcome)
    → IfOk outcome (λ d. IfSome texts (λ told. IsPrinted told (TrialOf size) d))
trial_printed None size (Ok d) due = tt
trial_printed (Some told) size (Ok d) due = due tt
trial_printed texts size (Err e) due = tt
