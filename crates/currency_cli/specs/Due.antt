-- What is due for words and told documents: the words, and then what is due for the command that they say.
use Rattle.std.specs.Prelude.{◌≡◌, ℕ, List, Result, Err, MatchOption}
use Rattle.answer_tables.specs.Asked.{IsTableDocumentDue}
use Rattle.ask_command.specs.Asked.{IsAskDue, IsAskDocumentDue}
use Rattle.certain_table.specs.Table.{IsCertainTableDue}
use Rattle.command_stages.specs.Documents.{IsSpecDocumentDue}
use Rattle.command_stages.specs.declared.done.Done.{Done}
use Rattle.command_stages.specs.declared.trouble.Trouble.{Trouble}
use Rattle.command_stages.specs.declared.trouble.Trouble.TheVariants as trouble
use Rattle.conflicts_command.specs.Found.{IsConflictsDue}
use Rattle.currency_cli.specs.Words.{command_for}
use Rattle.explain_command.specs.Explained.{IsExplainDue, IsExplainDocumentDue}
use Rattle.forced_command.specs.Forced.{IsForcedDue}
use Rattle.golden_command.specs.Golden.{IsGoldenDue}
use Rattle.possible_command.specs.Possible.{IsPossibleDocumentDue, IsPossibleDue}
use Rattle.possible_table.specs.Table.{IsPossibleTableDue}
use Rattle.program_words.specs.Words.{AskFor, CertainTableFor, CommandSaid, ConflictsIn, ExplainFor, ForcedOf, GoldenIn}
use Rattle.program_words.specs.Words.{PossibleFor, PossibleTableFor, SessionOver, TrialOf, VerifyOf}
use Rattle.session_command.specs.Sessions.{IsSessionDocumentDue, IsSessionDue}
use Rattle.trial_command.specs.Trial.{IsTrialDue}
use Rattle.verify_command.specs.Judged.{IsVerifyDue, IsVerifyDocumentDue}

-- what is due for a command
abbrev pub IsDueFor : List (List ℕ × List ℕ) → CommandSaid → Result Done Trouble → Type 0
IsDueFor told (VerifyOf v) outcome = IsVerifyDue told v outcome
IsDueFor told (AskFor a) outcome = IsAskDue told a outcome
IsDueFor told (ForcedOf name) outcome = IsForcedDue told name outcome
IsDueFor told (TrialOf size) outcome = IsTrialDue size outcome
IsDueFor told (ExplainFor e) outcome = IsExplainDue told e outcome
IsDueFor told (ConflictsIn c) outcome = IsConflictsDue told c outcome
IsDueFor told (GoldenIn g) outcome = IsGoldenDue told g outcome
IsDueFor told (PossibleFor p) outcome = IsPossibleDue told p outcome
IsDueFor told (CertainTableFor t) outcome = IsCertainTableDue told t outcome
IsDueFor told (PossibleTableFor t) outcome = IsPossibleTableDue told t outcome
IsDueFor told (SessionOver a) outcome = IsSessionDue told a outcome

-- a command that searches for nothing
abbrev pub SearchesNothing : CommandSaid → Type 0
SearchesNothing (VerifyOf v) = Unit {0}
SearchesNothing (ForcedOf name) = Unit {0}
SearchesNothing other = ⊥

-- what is due for words, where so many guides are handed in
abbrev pub IsDue : List (List ℕ × List ℕ) → ℕ → List (List ℕ) → Result Done Trouble → Type 0
IsDue told count words outcome = MatchOption (command_for count words) (outcome ≡ Err trouble.Words)
    (λ c. IsDueFor told c outcome)

-- a document is due to be read for a command; `trial` reads none
abbrev pub IsDocumentDue : List (List ℕ × List ℕ) → CommandSaid → List ℕ → Type 0
IsDocumentDue told (VerifyOf v) name = IsVerifyDocumentDue told v name
IsDocumentDue told (AskFor a) name = IsAskDocumentDue told a name
IsDocumentDue told (ForcedOf spec) name = IsSpecDocumentDue told spec name
IsDocumentDue told (TrialOf size) name = ⊥
IsDocumentDue told (ExplainFor e) name = IsExplainDocumentDue told e name
IsDocumentDue told (ConflictsIn c) name = IsSpecDocumentDue told c.spec name
IsDocumentDue told (GoldenIn g) name = IsSpecDocumentDue told g.spec name
IsDocumentDue told (PossibleFor p) name = IsPossibleDocumentDue told p name
IsDocumentDue told (CertainTableFor t) name = IsTableDocumentDue told t name
IsDocumentDue told (PossibleTableFor t) name = IsTableDocumentDue told t name
IsDocumentDue told (SessionOver a) name = IsSessionDocumentDue told a name

-- a document of this name is due to be read for these words
abbrev pub IsReadDue : List (List ℕ × List ℕ) → ℕ → List (List ℕ) → List ℕ → Type 0
IsReadDue told count words name = MatchOption (command_for count words) ⊥ (λ c. IsDocumentDue told c name)
