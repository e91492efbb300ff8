-- What is printed where a command comes to something.
use Rattle.std.specs.Prelude.{◌≡◌, ℕ, List, Option, Some, IfSome, Ok}
use Rattle.ask_command.specs.Asked.{IsAnswerPrinted}
use Rattle.certain_table.specs.Table.{IsCertainTablePrinted}
use Rattle.command_stages.specs.declared.done.Done.{Done}
use Rattle.conflicts_command.specs.Found.{AreConflictsPrinted}
use Rattle.currency_cli.specs.Words.{command_for}
use Rattle.explain_command.specs.Explained.{IsExplainPrinted}
use Rattle.forced_command.specs.Forced.{AreForcedPrinted}
use Rattle.golden_command.specs.Golden.{IsGoldenPrinted}
use Rattle.possible_command.specs.Possible.{IsPossiblePrinted}
use Rattle.possible_table.specs.Table.{IsPossibleTablePrinted}
use Rattle.program_words.specs.Words.{AskFor, CertainTableFor, CommandSaid, ConflictsIn, ExplainFor, ForcedOf, GoldenIn}
use Rattle.program_words.specs.Words.{PossibleFor, PossibleTableFor, SessionOver, TrialOf, VerifyOf}
use Rattle.session_command.specs.Sessions.{IsSessionPrinted}
use Rattle.trial_command.specs.Trial.{IsTrialDue}
use Rattle.verify_command.specs.Shown.{IsVerifyPrinted}

-- what the told documents show of what a command came to
abbrev pub IsPrinted : List (List ℕ × List ℕ) → CommandSaid → Done → Type 0
IsPrinted told (VerifyOf v) d = IsVerifyPrinted told v d
IsPrinted told (AskFor a) d = IsAnswerPrinted told a d.text d.ending
IsPrinted told (ForcedOf name) d = AreForcedPrinted told name d
IsPrinted told (TrialOf size) d = IsTrialDue size (Ok d)
IsPrinted told (ExplainFor e) d = IsExplainPrinted told e d.text d.ending
IsPrinted told (ConflictsIn c) d = AreConflictsPrinted told c d.text d.ending
IsPrinted told (GoldenIn g) d = IsGoldenPrinted told g d.text d.ending
IsPrinted told (PossibleFor p) d = IsPossiblePrinted told p d.text d.ending
IsPrinted told (CertainTableFor t) d = IsCertainTablePrinted told t d.text d.ending
IsPrinted told (PossibleTableFor t) d = IsPossibleTablePrinted told t d.text d.ending
IsPrinted told (SessionOver a) d = IsSessionPrinted told a d.text d.ending

-- words say a command that came to this
pub record IsPrintedFor (texts : Option (List (List ℕ × List ℕ))) (count : ℕ) (words : List (List ℕ)) (d : Done) : Type 0 where
  pub command : CommandSaid
  pub said : command_for count words ≡ Some command
  pub printed : IfSome texts (λ told. IsPrinted told command d)
