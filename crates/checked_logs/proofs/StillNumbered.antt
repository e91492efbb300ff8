-- A trimmed log can be checked where the log can.
use Rattle.std.proofs.Common.{◌≡◌, ◌∙◌, ◌<◌, ℕ, Bool, List, [], length, get_or, Option, Some, option_map, slice_get, ap, subst, arith, All}
use Rattle.std.proofs.lemmas.List.{length-map}
use Rattle.std.proofs.lemmas.Option.{slice_get-map, slice_get-get_or, slice_get_within, get_or_from_slice_get}
use Rattle.currency_base.specs.Literals.{var_of}
use Rattle.currency_base.specs.declared.lit.Lit.{Lit}
use Rattle.refutation_log.specs.Counted.{AreWithin}
use Rattle.refutation_log.specs.Steps.{clause_of, clauses_of}
use Rattle.refutation_log.specs.declared.log.Log.{Log}
use Rattle.refutation_log.specs.declared.step.Step.{Step}
use Rattle.refutation_log.specs.declared.step.Step.TheVariants.{Axiom, OnDemand, Learn}
use Rattle.refutation_log.specs.Numbered.{HasFewHints}
use Rattle.log_trim.specs.Trimmed.{IsTrimmed, lits_at, rank, renumbered_step}
use Rattle.log_trim.specs.declared.trimming.Trimmed.{Trimmed}
use Rattle.log_trim.proofs.NewPlaces.{changed_from}
use Rattle.log_trim.proofs.StaysInPlace.{stays_in_place}
use Rattle.checked_logs.specs.Trimmed.{TrimmedAreNumbered}

all_at : {X : Type 0} (P : X → Type 0) (xs : List X) (n : ℕ) (x : X) → All P xs → slice_get xs n ≡ Some x → P x
all_at P xs n x all there = subst P (get_or_from_slice_get xs n x x there) (all n x (slice_get_within xs n x there))

all_by_place : {X : Type 0} (P : X → Type 0) (xs : List X) → ((n : ℕ) (x : X) → slice_get xs n ≡ Some x → P x) → All P xs
all_by_place P xs each k d below = each k (get_or xs k d) (slice_get-get_or xs k d below)

within : (statements : ℕ) (steps : List Step) → ((place : ℕ) → All (λ lit. var_of lit < statements) (lits_at steps place))
    → AreWithin statements steps
within statements steps vars_in =
    all_by_place (λ step. All (λ lit. var_of lit < statements) (clause_of step)) steps (λ place step there.
    let clause : slice_get (clauses_of steps) place ≡ Some (clause_of step) =
    slice_get-map clause_of steps place ∙ ap (λ (o : Option Step). option_map clause_of o) there in
    subst (λ (lits : List Lit). All (λ lit. var_of lit < statements) lits)
    (get_or_from_slice_get (clauses_of steps) place (clause_of step) [] clause) (vars_in place))

few_hints : (keep vars : ℕ → Bool) (step : Step) → HasFewHints step → HasFewHints (renumbered_step keep vars step)
few_hints keep vars (Axiom l lits) few = tt
few_hints keep vars (OnDemand l lits) few = tt
few_hints keep vars (Learn lits hints counted) few = let same = length-map hints (rank keep) in omega arith

still_few : (log : Log) (goals : List ℕ) (trimmed : Trimmed) → IsTrimmed log goals trimmed → All HasFewHints log.steps
    → All HasFewHints trimmed.log.steps
still_few log goals trimmed t few =
    all_by_place HasFewHints trimmed.log.steps (λ place step there.
    let renumbered = renumbered_step t.step_kept t.statement_kept in
    let was = changed_from renumbered t.step_kept log.steps trimmed.log.steps place step t.steps there in
    let from = was.1 in
    subst HasFewHints was.2
    (few_hints t.step_kept t.statement_kept was.0 (all_at HasFewHints log.steps from.place was.0 few from.there)))

pub trimmed_are_numbered : TrimmedAreNumbered
trimmed_are_numbered log goals trimmed in_place numbered t =
    let still = stays_in_place log goals trimmed t in_place in
    record {
      within = within (length trimmed.log.statements) trimmed.log.steps still.vars_in;
      few_statements = (let few = still.few_statements in omega arith);
      few_steps = still.few_steps;
      few_hints = still_few log goals trimmed t numbered.few_hints;
    }
