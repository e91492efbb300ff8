-- The numbers in steps and statements are places.
use Rattle.std.specs.Prelude.{◌≡◌, ◌<◌, ℕ, List, All, Some, slice_get}
use Rattle.currency_base.specs.Literals.{var_of}
use Rattle.refutation_log.specs.Steps.{clause_of}
use Rattle.refutation_log.specs.declared.statement.Statement.{Statement}
use Rattle.refutation_log.specs.declared.statement.Statement.TheVariants.{Before, Top, Last, Answer}
use Rattle.refutation_log.specs.declared.step.Step.{Step}
use Rattle.log_trim.specs.Trimmed.{hints_of}

-- the variables of a step's literals are among so many, and its hints are below its place
pub record IsStepInPlace (statements place : ℕ) (step : Step) : Type 0 where
  pub vars : All (λ lit. var_of lit < statements) (clause_of step)
  pub hints : All (λ hint. hint < place) (hints_of step)

-- so it is with each of the first steps
abbrev pub AreStepsInPlace : ℕ → ℕ → List Step → Type 0
AreStepsInPlace statements count steps =
    (place : ℕ) (step : Step) → place < count → slice_get steps place ≡ Some step → IsStepInPlace statements place step

-- the answer that a statement names, if it names one, is among so many
abbrev pub IsStatementInPlace : ℕ → Statement → Type 0
IsStatementInPlace answers (Before rel attr earlier later) = Unit {0}
IsStatementInPlace answers (Top rel attr row) = Unit {0}
IsStatementInPlace answers (Last rel attr row) = Unit {0}
IsStatementInPlace answers (Answer tuple) = tuple < answers

-- so it is with each of the first statements
abbrev pub AreStatementsInPlace : ℕ → ℕ → List Statement → Type 0
AreStatementsInPlace answers count statements =
    (place : ℕ) (statement : Statement) → place < count → slice_get statements place ≡ Some statement
    → IsStatementInPlace answers statement
