-- A trimmed log is accepted, and can be checked, where the log is.
use Rattle.std.proofs.Common.{◌≡◌, ◌∙◌, ℕ, List, map, take, Option, Some, slice_get, sym, ap, subst}
use Rattle.query_model.specs.declared.query.Query.{Query}
use Rattle.spec_model.specs.Spec.{Spec}
use Rattle.refutation_log.specs.Steps.{clauses_of}
use Rattle.refutation_log.specs.declared.log.Log.{Log}
use Rattle.refutation_log.specs.declared.step.Step.{Step}
use Rattle.refutation_log.specs.declared.step.Step.TheVariants.{Axiom, OnDemand, Learn}
use Rattle.log_axioms.specs.Posed.{posed_by}
use Rattle.log_checker.specs.Accepted.{IsAccepted, IsAcceptedStep}
use Rattle.log_trim.specs.Laws.{AllFollow}
use Rattle.log_trim.specs.Trimmed.{AreInPlace, IsTrimmed, Reaches, rank, renumbered_lit, renumbered_step}
use Rattle.log_trim.specs.declared.trimming.Trimmed.{Trimmed}
use Rattle.log_trim.proofs.NewPlaces.{changed_from}
use Rattle.log_trim.proofs.StillFollows.{kept_lits, trimmed_still_follows}
use Rattle.checked_logs.specs.Trimmed.{TrimmedAreAccepted}
use Rattle.checked_logs.proofs.Renumbered.{axiom_stays}

all_follow : (s : Spec) (query : Option Query) (log : Log) → IsAccepted s query log → AllFollow log.steps
all_follow s query log accepted place lits hints counted there = accepted place (Learn lits hints counted) there

-- a step that is kept is accepted, renumbered, at the place where it stands in the trimmed log
kept_is_accepted : (s : Spec) (query : Option Query) (log : Log) (goals : List ℕ) (trimmed : Trimmed) → AreInPlace log goals
    → IsAccepted s query log → (t : IsTrimmed log goals trimmed) → (old place : ℕ) (step : Step)
    → Reaches log.steps goals old → slice_get log.steps old ≡ Some step
    → slice_get trimmed.log.steps place ≡ Some (renumbered_step t.step_kept t.statement_kept step)
    → IsAcceptedStep s (posed_by query trimmed.log) trimmed.log.statements (clauses_of (take place trimmed.log.steps))
    (renumbered_step t.step_kept t.statement_kept step)
kept_is_accepted s query log goals trimmed in_place accepted t old place (Axiom l lits) reached there new =
    axiom_stays s query log goals trimmed in_place t lits (kept_lits log goals trimmed t old (Axiom l lits) reached there) l
    (accepted old (Axiom l lits) there)
kept_is_accepted s query log goals trimmed in_place accepted t old place (OnDemand l lits) reached there new =
    axiom_stays s query log goals trimmed in_place t lits (kept_lits log goals trimmed t old (OnDemand l lits) reached there) l
    (accepted old (OnDemand l lits) there)
kept_is_accepted s query log goals trimmed in_place accepted t old place (Learn lits hints counted) reached there new =
    trimmed_still_follows log goals trimmed t (all_follow s query log accepted) place (map (renumbered_lit t.statement_kept) lits)
    (map (rank t.step_kept) hints) counted new

pub trimmed_are_accepted : TrimmedAreAccepted
trimmed_are_accepted s query log goals trimmed in_place accepted t place step there =
    let renumbered = renumbered_step t.step_kept t.statement_kept in
    let was = changed_from renumbered t.step_kept log.steps trimmed.log.steps place step t.steps there in
    let from = was.1 in
    let new : slice_get trimmed.log.steps place ≡ Some (renumbered was.0) = there ∙ ap (λ (one : Step). Some one) (sym was.2) in
    subst (λ (one : Step). IsAcceptedStep s (posed_by query trimmed.log) trimmed.log.statements
    (clauses_of (take place trimmed.log.steps)) one) was.2
    (kept_is_accepted s query log goals trimmed in_place accepted t from.place place was.0
    ((t.kept_steps from.place).0 from.kept) from.there new)
