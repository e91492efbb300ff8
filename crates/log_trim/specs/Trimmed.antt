-- A log that keeps what its goals need, renumbered.
use Rattle.std.specs.Prelude.{◌≡◌, ◌<◌, ◌↔◌, ◌^◌, ℕ, zero, suc, Bool, true, if◌then◌else◌, List, [], ◌∷◌, length, map, All, Contains, Some, slice_get, slice_index_or}
use Rattle.currency_base.specs.Literals.{var_of, is_negative, literal}
use Rattle.currency_base.specs.declared.lit.Lit.{Lit}
use Rattle.refutation_log.specs.Steps.{clauses_of}
use Rattle.refutation_log.specs.declared.log.Log.{Log}
use Rattle.refutation_log.specs.declared.statement.Statement.{Statement}
use Rattle.refutation_log.specs.declared.statement.Statement.TheVariants as statement
use Rattle.refutation_log.specs.declared.step.Step.{Step}
use Rattle.refutation_log.specs.declared.step.Step.TheVariants as step
use Rattle.log_trim.specs.declared.trimming.Trimmed.{Trimmed}

-- ---- what goals need

-- the literals of the step at a place
abbrev pub lits_at : List Step → ℕ → List Lit
lits_at steps place = slice_index_or (clauses_of steps) place []

-- the hints of a step: an axiom has none
abbrev pub hints_of : Step → List ℕ
hints_of (step.Axiom l lits) = []
hints_of (step.OnDemand l lits) = []
hints_of (step.Learn lits hints counted) = hints

-- the hints of the step at a place
abbrev pub hints_at : List Step → ℕ → List ℕ
hints_at steps place = slice_index_or (map hints_of steps) place []

-- the steps that goals reach: the goals, and each hint of a step that is reached
pub data Reaches (steps : List Step) (goals : List ℕ) : ℕ → Type 0 where
  is_goal : (place : ℕ) → Contains goals place → Reaches steps goals place
  is_hint : (place : ℕ) (used : ℕ) → Reaches steps goals place → Contains (hints_at steps place) used → Reaches steps goals used

-- a variable is used: it is that of a literal of a step that is reached
pub record IsUsedVar (steps : List Step) (goals : List ℕ) (var : ℕ) : Type 0 where
  pub place : ℕ
  pub reached : Reaches steps goals place
  pub lit : Lit
  pub is_in : Contains (lits_at steps place) lit
  pub is_var : var_of lit ≡ var

-- an answer is used: the statement of a variable that is used names it
pub record IsUsedAnswer (log : Log) (goals : List ℕ) (tuple : ℕ) : Type 0 where
  pub var : ℕ
  pub used : IsUsedVar log.steps goals var
  pub names : slice_get log.statements var ≡ Some (statement.Answer tuple)

-- the numbers in a log, and its goals, are places in its lists; each hint is an earlier step
pub record AreInPlace (log : Log) (goals : List ℕ) : Type 0 where
  pub goals_in : All (λ goal. goal < length log.steps) goals
  pub hints_in : (place : ℕ) → All (λ hint. hint < place) (hints_at log.steps place)
  pub vars_in : (place : ℕ) → All (λ lit. var_of lit < length log.statements) (lits_at log.steps place)
  pub tuples_in : (place tuple : ℕ) → slice_get log.statements place ≡ Some (statement.Answer tuple)
      → tuple < length log.answers
  pub few_steps : length log.steps < 2 ^ 32
  pub few_statements : length log.statements < 2 ^ 31
  pub few_answers : length log.answers < 2 ^ 32

-- ---- what is kept, and its new places

-- of a list, the items at the places that are kept, in order
abbrev pub kept_of : {X : Type 0} → (ℕ → Bool) → List X → List X
kept_of keep [] = []
kept_of keep (x ∷ xs) = if keep 0 then x ∷ kept_of (λ n. keep (suc n)) xs else kept_of (λ n. keep (suc n)) xs

-- how many places below a place are kept: its new place, where it is kept itself
abbrev pub rank : (ℕ → Bool) → ℕ → ℕ
rank keep zero = 0
rank keep (suc n) = if keep 0 then suc (rank (λ k. keep (suc k)) n) else rank (λ k. keep (suc k)) n

-- the literal of the variable's new place, with the same sign
abbrev pub renumbered_lit : (ℕ → Bool) → Lit → Lit
renumbered_lit keep lit = literal (rank keep (var_of lit)) (is_negative lit)

-- the step with its literals and hints renumbered; all else is as it was
abbrev pub renumbered_step : (ℕ → Bool) → (ℕ → Bool) → Step → Step
renumbered_step steps vars (step.Axiom l lits) = step.Axiom l (map (renumbered_lit vars) lits)
renumbered_step steps vars (step.OnDemand l lits) = step.OnDemand l (map (renumbered_lit vars) lits)
renumbered_step steps vars (step.Learn lits hints counted) =
    step.Learn (map (renumbered_lit vars) lits) (map (rank steps) hints) counted

-- the statement with the answer that it names renumbered
abbrev pub renumbered_statement : (ℕ → Bool) → Statement → Statement
renumbered_statement answers (statement.Before rel attr earlier later) = statement.Before rel attr earlier later
renumbered_statement answers (statement.Top rel attr row) = statement.Top rel attr row
renumbered_statement answers (statement.Last rel attr row) = statement.Last rel attr row
renumbered_statement answers (statement.Answer tuple) = statement.Answer (rank answers tuple)

-- the trimmed log has the steps that the goals reach, and the statements and the answers that are used, in order and
-- renumbered; and the new places of the goals stand with it
pub record IsTrimmed (log : Log) (goals : List ℕ) (trimmed : Trimmed) : Type 0 where
  pub step_kept : ℕ → Bool
  pub statement_kept : ℕ → Bool
  pub answer_kept : ℕ → Bool
  pub kept_steps : (place : ℕ) → (step_kept place ≡ true) ↔ Reaches log.steps goals place
  pub kept_statements : (var : ℕ) → (statement_kept var ≡ true) ↔ IsUsedVar log.steps goals var
  pub kept_answers : (tuple : ℕ) → (answer_kept tuple ≡ true) ↔ IsUsedAnswer log goals tuple
  pub steps : trimmed.log.steps ≡ map (renumbered_step step_kept statement_kept) (kept_of step_kept log.steps)
  pub statements : trimmed.log.statements ≡ map (renumbered_statement answer_kept) (kept_of statement_kept log.statements)
  pub answers : trimmed.log.answers ≡ kept_of answer_kept log.answers
  pub new_goals : trimmed.goals ≡ map (rank step_kept) goals
