-- What `forced` comes to, stage by stage.
use Rattle.std.proofs.Common.{ℕ, List, Option, Some, None, IfOk, IfSome, Result, Ok, Err}
use Rattle.command_stages.proofs.Outcomes.{same_done}
use Rattle.command_stages.specs.Named.{IsDetermined}
use Rattle.command_stages.specs.Stages.{IsSpecRead}
use Rattle.command_stages.specs.declared.done.Done.{Done}
use Rattle.command_stages.specs.declared.trouble.Trouble.{Trouble}
use Rattle.forced_command.specs.Forced.{IsForcedPrinted, IsForcedDue, AreForcedPrinted}
use Rattle.spec_model.specs.Spec.{Spec}

pub forced_printed : (texts : Option (List (List ℕ × List ℕ))) (name : List ℕ) (s : Spec) (outcome : Result Done Trouble)
    → IfSome texts (λ told. IsSpecRead told name (Ok s)) → (IsDetermined outcome → IsForcedPrinted s outcome)
    → IfOk outcome (λ d. IfSome texts (λ told. AreForcedPrinted told name d))
forced_printed None name s (Ok d) spec job = tt
forced_printed (Some told) name s (Ok d) spec job =
    let h = job tt in
    (h.0, record { spec = s; spec_read = spec; forced = h.1 }, same_done d _ h.2)
forced_printed texts name s (Err e) spec job = tt

-- a text of forced pairs is due
pub forced_due : (texts : Option (List (List ℕ × List ℕ))) (name : List ℕ) (s : Spec) (outcome : Result Done Trouble)
    → IfSome texts (λ told. IsSpecRead told name (Ok s)) → (IsDetermined outcome → IsForcedPrinted s outcome)
    → IsDetermined outcome → IfSome texts (λ told. IsForcedDue told name outcome)
forced_due None name s outcome spec job determined = tt
forced_due (Some told) name s outcome spec job determined = (Ok s, spec, job determined)
