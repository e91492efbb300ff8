-- Where the document of `conflicts` is read, what is found of its smallest parts is told; and it is told alike,
-- whatever it is.
use Rattle.std.proofs.Common.{◌≡◌, ◌⊎◌, ◌∙◌, ℕ, List, MatchResult, Result, Ok, Err, ap, inl, inr, refl, subst}
use Rattle.command_stages.proofs.OneRead.{IsOne}
use Rattle.command_stages.proofs.Outcomes.{IsLike, answers_alike, then_like}
use Rattle.command_stages.specs.Endings.{IsOfQuestion, ending_status}
use Rattle.command_stages.specs.Outcomes.{status_of}
use Rattle.command_stages.specs.Stages.{IsSpecRead}
use Rattle.command_stages.specs.declared.done.Done.{Done}
use Rattle.command_stages.specs.declared.trouble.Trouble.{Trouble}
use Rattle.part_conflicts.specs.declared.found.Found.{Found}
use Rattle.part_conflicts.specs.declared.found.Found.TheVariants as found
use Rattle.program_words.specs.Words.{ConflictsSaid}
use Rattle.spec_model.specs.Spec.{Spec}
use Rattle.conflicts_command.specs.Found.{IsConflictsDue, IsConflictsFound}
use Rattle.conflicts_command.specs.Text.{conflicts_done, conflicts_ending}

abbrev OneSpec : Type 0
OneSpec = (told : List (List ℕ × List ℕ)) (name : List ℕ) → IsOne (IsSpecRead told name)

-- ---- what is due

pub found_due : OneSpec → (told : List (List ℕ × List ℕ)) (c : ConflictsSaid) (s : Spec) (got : Result Done Trouble)
    → IsSpecRead told c.spec (Ok s) → IsConflictsDue told c got → IsConflictsFound s c got
found_due one_spec told c s got spec h =
    subst (λ (o : Result Spec Trouble). MatchResult o (λ x. IsConflictsFound x c got) (λ e. got ≡ Err e))
    (one_spec told c.spec h.0 (Ok s) h.1 spec) h.2

-- ---- all of it ends as a question does

of_question : (f : Found) → IsOfQuestion (conflicts_ending f)
of_question (found.All list) = tt
of_question (found.Undecided part report) = tt
of_question (found.Open part spent) = tt

pub found_like : (s : Spec) (c : ConflictsSaid) → IsLike (IsConflictsFound s c)
found_like s c a b h k =
    answers_alike (conflicts_done h.0) (conflicts_done k.0) a b (of_question h.0) (of_question k.0) h.2 k.2

pub conflicts_like : OneSpec → (told : List (List ℕ × List ℕ)) (c : ConflictsSaid) → IsLike (IsConflictsDue told c)
conflicts_like one_spec told c =
    then_like (IsSpecRead told c.spec) (λ s. IsConflictsFound s c) (one_spec told c.spec) (λ s. found_like s c)

-- ---- its status

found_status : (f : Found) → (ending_status (conflicts_ending f) ≡ 0) ⊎ (ending_status (conflicts_ending f) ≡ 3)
found_status (found.All list) = inl refl
found_status (found.Undecided part report) = inr refl
found_status (found.Open part spent) = inr refl

pub found_comes : (s : Spec) (c : ConflictsSaid) (got : Result Done Trouble) (status : ℕ) → IsConflictsFound s c got
    → status ≡ status_of got → (status ≡ 0) ⊎ (status ≡ 3)
found_comes s c got status h is = by (found_status h.0)
  where
    same : status ≡ ending_status (conflicts_ending h.0)
    same = is ∙ ap (λ (o : Result Done Trouble). status_of o) h.2

    by : (ending_status (conflicts_ending h.0) ≡ 0) ⊎ (ending_status (conflicts_ending h.0) ≡ 3)
        → (status ≡ 0) ⊎ (status ≡ 3)
    by (inl zero) = inl (same ∙ zero)
    by (inr three) = inr (same ∙ three)
