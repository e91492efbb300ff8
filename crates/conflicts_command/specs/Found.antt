-- What is due for the smallest parts of a specification, and what is told.
use Rattle.std.specs.Prelude.{◌≡◌, ℕ, List, Result, Ok}
use Rattle.command_stages.specs.Stages.{Then, IsSpecRead}
use Rattle.command_stages.specs.declared.done.Done.{Done}
use Rattle.command_stages.specs.declared.done.Ending.{Ending}
use Rattle.command_stages.specs.declared.trouble.Trouble.{Trouble}
use Rattle.part_conflicts.specs.Conflicts.{AreConflicts}
use Rattle.part_conflicts.specs.declared.found.Found.{Found}
use Rattle.program_words.specs.Words.{ConflictsSaid}
use Rattle.program_words.specs.declared.command.Conflicts.{Conflicts}
use Rattle.spec_model.specs.Spec.{Spec}
use Rattle.conflicts_command.specs.Text.{conflicts_done}

-- what is asked, with the name of the document as bytes
abbrev pub conflicts_said : Conflicts → ConflictsSaid
conflicts_said c = record { spec = c.spec.now; budget = c.budget; guide = c.guide }

-- the job: what is found of the smallest parts is told
abbrev pub IsConflictsFound : Spec → ConflictsSaid → Result Done Trouble → Type 0
IsConflictsFound s c outcome = (x : Found) × AreConflicts s c.budget x × (outcome ≡ Ok (conflicts_done x))

-- what is due for the smallest parts of a specification
abbrev pub IsConflictsDue : List (List ℕ × List ℕ) → ConflictsSaid → Result Done Trouble → Type 0
IsConflictsDue told c = Then (IsSpecRead told c.spec) (λ s. IsConflictsFound s c)

-- the document is read as a specification, and this is the text of what is found of its smallest parts, and how that
-- ends
pub record AreConflictsPrinted (told : List (List ℕ × List ℕ)) (c : ConflictsSaid) (text : List ℕ) (ending : Ending)
    : Type 0 where
  pub spec : Spec
  pub spec_read : IsSpecRead told c.spec (Ok spec)
  pub found : Found
  pub are_conflicts : AreConflicts spec c.budget found
  pub done : conflicts_done found ≡ record { text = text; ending = ending }
