-- What is due for the forced pairs of a specification, and what is told.
use Rattle.std.specs.Prelude.{◌≡◌, ℕ, List, Result, Ok}
use Rattle.command_stages.specs.Endings.{printed_text}
use Rattle.command_stages.specs.Stages.{Then, IsSpecRead}
use Rattle.command_stages.specs.declared.done.Done.{Done}
use Rattle.command_stages.specs.declared.trouble.Trouble.{Trouble}
use Rattle.forced_write.specs.ForcedText.{IsForcedText}
use Rattle.spec_model.specs.Spec.{Spec}

-- the job: the forced pairs are told
abbrev pub IsForcedPrinted : Spec → Result Done Trouble → Type 0
IsForcedPrinted s outcome = (text : List ℕ) × IsForcedText s text × (outcome ≡ Ok (printed_text text))

-- what is due for the forced pairs of a specification
abbrev pub IsForcedDue : List (List ℕ × List ℕ) → List ℕ → Result Done Trouble → Type 0
IsForcedDue told name = Then (IsSpecRead told name) IsForcedPrinted

-- the document is read as a specification, and this is the text of its forced pairs
pub record AreForcedListed (told : List (List ℕ × List ℕ)) (name text : List ℕ) : Type 0 where
  pub spec : Spec
  pub spec_read : IsSpecRead told name (Ok spec)
  pub forced : IsForcedText spec text

-- that is what a command came to
abbrev pub AreForcedPrinted : List (List ℕ × List ℕ) → List ℕ → Done → Type 0
AreForcedPrinted told name done = (text : List ℕ) × AreForcedListed told name text × (done ≡ printed_text text)
