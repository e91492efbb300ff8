-- What `conflicts` comes to, stage by stage.
use Rattle.std.proofs.Common.{◌≡◌, ℕ, List, Option, Some, None, IfOk, IfErr, IfSome, Result, Ok, Err, ap, subst, sym}
use Rattle.command_stages.proofs.Outcomes.{same_done}
use Rattle.command_stages.specs.Named.{IsDetermined, IsDeterminedTrouble}
use Rattle.command_stages.specs.Stages.{IsSpecRead}
use Rattle.command_stages.specs.declared.done.Done.{Done}
use Rattle.command_stages.specs.declared.trouble.Trouble.{Trouble}
use Rattle.command_stages.specs.declared.trouble.Trouble.TheVariants as trouble
use Rattle.part_conflicts.specs.Conflicts.{AreConflicts}
use Rattle.part_conflicts.specs.declared.found.Found.{Found}
use Rattle.program_words.specs.Words.{ConflictsSaid}
use Rattle.spec_model.specs.Spec.{Spec}
use Rattle.conflicts_command.specs.Found.{AreConflictsPrinted, IsConflictsDue, IsConflictsFound}
use Rattle.conflicts_command.specs.Text.{conflicts_done}

-- what is found is told
pub found_is_printed : (s : Spec) (c : ConflictsSaid) (f : Found) (outcome : Result Done Trouble)
    → AreConflicts s c.budget f → IfOk outcome (λ d. d ≡ conflicts_done f)
    → IfErr outcome (λ e. e ≡ trouble.NoMemory) → IsDetermined outcome
    → IsConflictsFound s c outcome
found_is_printed s c f (Ok d) are told memory determined = (f, are, ap Ok told)
found_is_printed s c f (Err e) are told memory determined = absurd (subst IsDeterminedTrouble memory determined)

printed_at : (told : List (List ℕ × List ℕ)) (c : ConflictsSaid) (s : Spec) (d : Done) → IsSpecRead told c.spec (Ok s)
    → IsConflictsFound s c (Ok d) → AreConflictsPrinted told c d.text d.ending
printed_at told c s d spec h = record {
  spec = s;
  spec_read = spec;
  found = h.0;
  are_conflicts = h.1;
  done = sym (same_done d _ h.2);
}

pub conflicts_printed : (texts : Option (List (List ℕ × List ℕ))) (c : ConflictsSaid) (s : Spec)
    (outcome : Result Done Trouble) → IfSome texts (λ told. IsSpecRead told c.spec (Ok s))
    → (IsDetermined outcome → IsConflictsFound s c outcome)
    → IfOk outcome (λ d. IfSome texts (λ told. AreConflictsPrinted told c d.text d.ending))
conflicts_printed None c s (Ok d) spec job = tt
conflicts_printed (Some told) c s (Ok d) spec job = printed_at told c s d spec (job tt)
conflicts_printed texts c s (Err e) spec job = tt

-- what is found is due
pub conflicts_due : (texts : Option (List (List ℕ × List ℕ))) (c : ConflictsSaid) (s : Spec)
    (outcome : Result Done Trouble) → IfSome texts (λ told. IsSpecRead told c.spec (Ok s))
    → (IsDetermined outcome → IsConflictsFound s c outcome)
    → IsDetermined outcome → IfSome texts (λ told. IsConflictsDue told c outcome)
conflicts_due None c s outcome spec job determined = tt
conflicts_due (Some told) c s outcome spec job determined = (Ok s, spec, job determined)
