-- What is due is determined, but for which report answers a question.
use Rattle.std.proofs.Common.{◌≡◌, ◌∙◌, ℕ, List, Option, Some, None, MatchOption, Result, Err, sym}
use Rattle.ask_command.proofs.Replies.{ask_like}
use Rattle.command_stages.proofs.OneRead.{IsOne}
use Rattle.command_stages.proofs.Outcomes.{IsLike, same_alike}
use Rattle.command_stages.specs.Alike.{AreAlike}
use Rattle.command_stages.specs.Stages.{IsSpecRead, IsQuestionRead, IsQuestionTree}
use Rattle.command_stages.specs.declared.done.Done.{Done}
use Rattle.command_stages.specs.declared.trouble.Trouble.{Trouble}
use Rattle.command_stages.specs.declared.trouble.Trouble.TheVariants as trouble
use Rattle.conflicts_command.proofs.Replies.{conflicts_like}
use Rattle.golden_command.proofs.Replies.{golden_like}
use Rattle.certain_table.proofs.Replies.{certain_like}
use Rattle.possible_command.proofs.Replies.{possible_like}
use Rattle.possible_table.proofs.Replies.{possible_table_like}
use Rattle.currency_cli.specs.Due.{IsDueFor, IsDue}
use Rattle.currency_cli.specs.Words.{command_for}
use Rattle.explain_command.proofs.Replies.{explain_like}
use Rattle.forced_command.proofs.Replies.{forced_like}
use Rattle.spec_model.specs.declared.relation.Relation.{Relation}
use Rattle.program_words.specs.Words.{AskFor, CertainTableFor, CommandSaid, ConflictsIn, ExplainFor, ForcedOf, GoldenIn}
use Rattle.program_words.specs.Words.{PossibleFor, PossibleTableFor, SessionOver, TrialOf, VerifyOf, VerifySaid}
use Rattle.program_words.specs.Words.{SessionSaid}
use Rattle.session_command.specs.Sessions.{IsSessionDue}
use Rattle.trial_command.proofs.Replies.{trial_like}
use Rattle.trial_documents.specs.Documents.{documents}
use Rattle.verify_command.specs.Judged.{IsVerifyDue}

-- what the layers below say of one reading, and of one judgement
pub record Laws : Type 0 where
  pub specs : (told : List (List ℕ × List ℕ)) (name : List ℕ) → IsOne (IsSpecRead told name)
  pub questions : (told : List (List ℕ × List ℕ)) (relations : List Relation) (name : List ℕ)
      → IsOne (IsQuestionRead told relations name)
  pub trees : (name bytes : List ℕ) → IsOne (IsQuestionTree name bytes)
  pub sessions : (told : List (List ℕ × List ℕ)) (o : SessionSaid) → IsLike (IsSessionDue told o)
  pub verdicts : (told : List (List ℕ × List ℕ)) (v : VerifySaid) → IsOne (IsVerifyDue told v)

for_command : Laws → (told : List (List ℕ × List ℕ)) (c : CommandSaid) → IsLike (IsDueFor told c)
for_command laws told (VerifyOf v) a b h k = same_alike a b (laws.verdicts told v a b h k)
for_command laws told (AskFor q) a b h k = ask_like laws.specs laws.questions told q a b h k
for_command laws told (ForcedOf name) a b h k = forced_like laws.specs told name a b h k
for_command laws told (TrialOf size) a b h k = trial_like laws.specs laws.questions (documents size) size a b h k
for_command laws told (ExplainFor e) a b h k = explain_like laws.specs laws.questions told e a b h k
for_command laws told (ConflictsIn c) a b h k = conflicts_like laws.specs told c a b h k
for_command laws told (GoldenIn g) a b h k = golden_like laws.specs told g a b h k
for_command laws told (PossibleFor p) a b h k = possible_like laws.specs laws.questions told p a b h k
for_command laws told (CertainTableFor t) a b h k = certain_like laws.trees laws.specs laws.questions told t a b h k
for_command laws told (PossibleTableFor t) a b h k =
    possible_table_like laws.trees laws.specs laws.questions told t a b h k
for_command laws told (SessionOver o) a b h k = laws.sessions told o a b h k

for_words : Laws → (told : List (List ℕ × List ℕ)) (o : Option CommandSaid) (a b : Result Done Trouble)
    → MatchOption o (a ≡ Err trouble.Words) (λ c. IsDueFor told c a) → MatchOption o (b ≡ Err trouble.Words)
    (λ c. IsDueFor told c b) → AreAlike a b
for_words laws told None a b h k = same_alike a b (h ∙ sym k)
for_words laws told (Some c) a b h k = for_command laws told c a b h k

pub one_due : Laws → (told : List (List ℕ × List ℕ)) (count : ℕ) (words : List (List ℕ)) (a b : Result Done Trouble)
    → IsDue told count words a → IsDue told count words b → AreAlike a b
one_due laws told count words a b h k = for_words laws told (command_for count words) a b h k
