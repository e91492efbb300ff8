-- The log of a search over the statements of a specification.
use Rattle.std.specs.Prelude.{◌≡◌, ◌⊎◌, ◌<◌, ◌≤◌, ℕ, Bool, true, false, List, length, take, All, None, Some, slice_get}
use Rattle.currency_base.specs.Lists.{OnlyOnce}
use Rattle.currency_base.specs.Literals.{var_of}
use Rattle.currency_base.specs.declared.ids.EntId.{EntId}
use Rattle.currency_base.specs.declared.lit.Lit.{Lit}
use Rattle.currency_base.specs.declared.value.Value.{Value}
use Rattle.log_axioms.specs.Axioms.{is_axiom}
use Rattle.log_axioms.specs.Posed.{Posed}
use Rattle.refutation_log.specs.Writable.{AreFew, IsWritableLabel}
use Rattle.query_model.specs.Answers.{AreAscending}
use Rattle.spec_limits.specs.Instances.{too_many_instances}
use Rattle.spec_limits.specs.Limits.{exceeded, too_many_variables}
use Rattle.spec_model.specs.Facts.{IsSpecification}
use Rattle.spec_model.specs.Spec.{Spec}
use Rattle.lean_hints.specs.Lean.{AreLean}
use Rattle.refutation_log.specs.Follows.{FollowsFrom}
use Rattle.refutation_log.specs.Steps.{clauses_of}
use Rattle.refutation_log.specs.declared.log.Log.{Log}
use Rattle.refutation_log.specs.declared.statement.Statement.{Statement}
use Rattle.refutation_log.specs.declared.step.Label.{Label}
use Rattle.refutation_log.specs.declared.step.Label.TheVariants as label
use Rattle.refutation_log.specs.declared.step.Step.{Step}
use Rattle.refutation_log.specs.declared.step.Step.TheVariants as step
use Rattle.currency_base.specs.Values.{IsValue}
use Rattle.order_literals.specs.Numbers.{numbers_of}
use Rattle.order_literals.specs.Statements.{statements_of}
use Rattle.order_literals.specs.declared.wanted.Wanted.{Wanted}
use Rattle.order_clauses.specs.Clauses.{IsAxiomStep}
use Rattle.search_logs.specs.Free.{IsFreeClause}

-- the statements that are numbered of a specification
abbrev pub variables : Spec → Wanted → List Statement
variables s wanted = statements_of (numbers_of s.relations wanted)

-- a clause that is learned: it follows from the clauses before it with its hints, and its literals are of the statements; no
-- literal stands twice; no hint does, and each but the last adds a literal; where it is not counted, it is one that is free of
-- the budget
pub record IsLearnedStep (s : Spec) (statements : List Statement) (earlier : List (List Lit)) (lits : List Lit)
    (hints : List ℕ) (counted : Bool) : Type 0 where
  pub follows : FollowsFrom earlier lits hints
  pub within : All (λ lit. var_of lit < length statements) lits
  pub lits_once : OnlyOnce lits
  pub lean : AreLean earlier lits hints
  pub free : counted ≡ false → IsFreeClause s statements lits

-- what is posed of a search: tuples that ascend, at most a million, of values such as documents have
pub record IsPosed (posed : Posed) : Type 0 where
  pub ascending : AreAscending posed.answers
  pub few : length posed.answers ≤ 1000000
  pub values : All (AreFew IsValue) posed.answers

-- literals that are the axiom of a match, whose label can be written: of the statements, and none twice
pub record IsMatchStep (s : Spec) (posed : Posed) (statements : List Statement) (l : Label) (lits : List Lit) : Type 0 where
  pub disjunct : ℕ
  pub entities : List EntId
  pub values : List Value
  pub is_match : l ≡ label.Match disjunct entities values
  pub judged : is_axiom s posed statements l lits ≡ true
  pub within : All (λ lit. var_of lit < length statements) lits
  pub once : OnlyOnce lits
  pub writable : IsWritableLabel l

-- literals that are the axiom of a label: of the specification, or of a match
abbrev pub IsAxiomTaken : Spec → Posed → List Statement → Label → List Lit → Type 0
IsAxiomTaken s posed statements l lits = IsAxiomStep s statements l lits (step.Axiom l lits) ⊎ IsMatchStep s posed
    statements l lits

-- a step that a search adds after these clauses: the axiom of a label, which is that of a match where it is demanded, or a
-- clause that is learned
abbrev pub IsSearchStep : Spec → Posed → List Statement → List (List Lit) → Step → Type 0
IsSearchStep s posed statements earlier (step.Axiom l lits) = IsAxiomTaken s posed statements l lits
IsSearchStep s posed statements earlier (step.OnDemand l lits) = IsMatchStep s posed statements l lits
IsSearchStep s posed statements earlier (step.Learn lits hints counted) =
    IsLearnedStep s statements earlier lits hints counted

-- each step is one that a search adds after the steps before it
abbrev pub AreSearchSteps : Spec → Posed → List Statement → List Step → Type 0
AreSearchSteps s posed statements steps =
    (place : ℕ) (taken : Step) → slice_get steps place ≡ Some taken → IsSearchStep s posed statements
    (clauses_of (take place steps)) taken

-- the log of a search in which these answers are posed
pub record IsSearchLog (s : Spec) (posed : Posed) (wanted : Wanted) (log : Log) : Type 0 where
  pub is_posed : IsPosed posed
  pub as_many : wanted.answers ≡ length posed.answers
  pub answers : log.answers ≡ posed.answers
  pub statements : log.statements ≡ variables s wanted
  pub steps : AreSearchSteps s posed (variables s wanted) log.steps

-- a specification within its limits
pub record IsWithin (s : Spec) : Type 0 where
  pub specification : IsSpecification s
  pub parts : exceeded s ≡ None
  pub variables_few : too_many_variables s ≡ None
  pub instances_few : too_many_instances s ≡ None

-- a log with no more steps than places in a text have numbers
abbrev pub HasFewSteps : Log → Type 0
HasFewSteps log = length log.steps ≤ 4294967294
