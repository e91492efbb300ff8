-- The clauses of the goals of a log say the same in the trimmed log.
use Rattle.std.proofs.Common.{◌≡◌, inl, inr, ◌∙◌, ◌<◌, ℕ, Bool, List, length, Option, Some, None, option_map, slice_get, refl, sym, ap, arith, Contains}
use Rattle.std.proofs.lemmas.List.Elements.{All-contains}
use Rattle.std.proofs.lemmas.Option.{slice_get_cases, slice_get_within, get_or_from_slice_get}
use Rattle.currency_base.specs.Literals.{var_of, is_negative}
use Rattle.currency_base.specs.declared.lit.Lit.{Lit}
use Rattle.refutation_log.specs.declared.log.Log.{Log}
use Rattle.refutation_log.specs.declared.statement.Statement.{Statement}
use Rattle.refutation_log.specs.declared.statement.Statement.TheVariants.{Answer}
use Rattle.log_axioms.specs.declared.signed.Signed.{Signed}
use Rattle.log_trim.specs.Trimmed.{is_goal, AreInPlace, IsUsedVar, lits_at, rank}
use Rattle.log_trim.proofs.NewPlaces.{answers_keep, goals_keep}
use Rattle.log_trim.proofs.StillFollows.{clauses_keep}
use Rattle.checked_logs.specs.Trimmed.{GoalClausesKeep, GoalMeaningsKeep, GoalAnswersKeep}
use Rattle.checked_logs.proofs.Renumbered.{meaning_keeps}

goal_in : (log : Log) (goals : List ℕ) (goal : ℕ) → AreInPlace log goals → Contains goals goal → goal < length log.steps
goal_in log goals goal in_place is_in = All-contains (λ g. g < length log.steps) goals goal in_place.goals_in is_in

pub goal_clauses_keep : GoalClausesKeep
goal_clauses_keep log goals trimmed in_place t k goal there =
    let is_in : Contains goals goal = (k, slice_get_within goals k goal there, get_or_from_slice_get goals k goal goal there) in (
      rank t.step_kept goal,
      goals_keep log goals trimmed t k goal there,
      clauses_keep log goals trimmed t goal (is_goal goal is_in) (goal_in log goals goal in_place is_in),
    )

-- the variable of a literal of a goal's clause is used
is_used : (log : Log) (goals : List ℕ) (goal : ℕ) (lit : Lit) → Contains goals goal → Contains (lits_at log.steps goal) lit
    → IsUsedVar log.steps goals (var_of lit)
is_used log goals goal lit is_in has =
    record { place = goal; reached = is_goal goal is_in; lit = lit; is_in = has; is_var = refl }

pub goal_meanings_keep : GoalMeaningsKeep
goal_meanings_keep log goals trimmed in_place t goal lit is_in has =
    meaning_keeps log goals trimmed in_place t lit (is_used log goals goal lit is_in has)

-- the statement that a literal says
said : (negative sign : Bool) (s : Statement) (o : Option Statement)
    → option_map (λ (t : Statement). let one : Signed = record { statement = t; negative = negative } in one) o
    ≡ Some (record { statement = s; negative = sign })
    → o ≡ Some s
said negative sign s None same = absurd (cc)
said negative sign s (Some t) same = ap (λ (p : Option Signed). option_map (λ (one : Signed). one.statement) p) same

pub goal_answers_keep : GoalAnswersKeep
goal_answers_keep log goals trimmed in_place t goal lit is_in has tuple negative says =
    let names : slice_get log.statements (var_of lit) ≡ Some (Answer tuple) =
    said (is_negative lit) negative (Answer tuple) (slice_get log.statements (var_of lit)) says in
    let within : tuple < length log.answers = in_place.tuples_in (var_of lit) tuple names in
    elim ((slice_get_cases log.answers tuple).1) [
      | inl one ↦
          answers_keep log goals trimmed t tuple one.0
          (record { var = var_of lit; used = is_used log goals goal lit is_in has; names = names }) one.2
          ∙ sym one.2
      | inr past ↦ absurd (let h = past.0 in omega arith)
    ]
