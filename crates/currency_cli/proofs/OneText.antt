-- What is due for a command that searches for nothing is one outcome.
use Rattle.std.proofs.Common.{◌≡◌, ℕ, List, Option, Some, MatchOption, Result, Err, subst}
use Rattle.command_stages.proofs.OneRead.{IsOne}
use Rattle.command_stages.specs.declared.done.Done.{Done}
use Rattle.command_stages.specs.declared.trouble.Trouble.{Trouble}
use Rattle.command_stages.specs.declared.trouble.Trouble.TheVariants as trouble
use Rattle.currency_cli.specs.Due.{IsDue, IsDueFor, SearchesNothing}
use Rattle.currency_cli.specs.Words.{command_for}
use Rattle.forced_command.specs.Forced.{IsForcedDue}
use Rattle.program_words.specs.Words.{AskFor, CertainTableFor, CommandSaid, ConflictsIn, ExplainFor, ForcedOf, GoldenIn}
use Rattle.program_words.specs.Words.{PossibleFor, PossibleTableFor, SessionOver, TrialOf, VerifyOf, VerifySaid}
use Rattle.verify_command.specs.Judged.{IsVerifyDue}

module _ (verdicts : (told : List (List ℕ × List ℕ)) (v : VerifySaid) → IsOne (IsVerifyDue told v))
    (listings : (told : List (List ℕ × List ℕ)) (name : List ℕ) → IsOne (IsForcedDue told name)) where
  one_for : (told : List (List ℕ × List ℕ)) (c : CommandSaid) → SearchesNothing c → IsOne (IsDueFor told c)
  one_for told (VerifyOf v) plain = verdicts told v
  one_for told (ForcedOf name) plain = listings told name
  one_for told (AskFor a) plain = absurd plain
  one_for told (TrialOf size) plain = absurd plain
  one_for told (ExplainFor e) plain = absurd plain
  one_for told (ConflictsIn c) plain = absurd plain
  one_for told (GoldenIn g) plain = absurd plain
  one_for told (PossibleFor p) plain = absurd plain
  one_for told (CertainTableFor t) plain = absurd plain
  one_for told (PossibleTableFor t) plain = absurd plain
  one_for told (SessionOver a) plain = absurd plain

  of_words : (told : List (List ℕ × List ℕ)) (words : Option CommandSaid) (c : CommandSaid) → words ≡ Some c
      → (o : Result Done Trouble) → MatchOption words (o ≡ Err trouble.Words) (λ d. IsDueFor told d o) → IsDueFor told c o
  of_words told words c said o due =
      subst (λ (w : Option CommandSaid). MatchOption w (o ≡ Err trouble.Words) (λ d. IsDueFor told d o)) said due

  pub one_text : (told : List (List ℕ × List ℕ)) (count : ℕ) (words : List (List ℕ)) (c : CommandSaid)
      → command_for count words ≡ Some c → SearchesNothing c → IsOne (IsDue told count words)
  one_text told count words c said plain a b h k =
      one_for told c plain a b (of_words told (command_for count words) c said a h)
      (of_words told (command_for count words) c said b k)
