-- Logs of which each step that is not counted may be so, and no hint is idle.
use Rattle.std.specs.Prelude.{◌≡◌, ℕ, Bool, false, List, Some, slice_get, take}
use Rattle.currency_base.specs.declared.lit.Lit.{Lit}
use Rattle.spec_model.specs.Spec.{Spec}
use Rattle.lean_hints.specs.Lean.{AreLean}
use Rattle.refutation_log.specs.Steps.{clauses_of}
use Rattle.refutation_log.specs.declared.log.Log.{Log}
use Rattle.refutation_log.specs.declared.step.Label.{Label}
use Rattle.refutation_log.specs.declared.step.Label.TheVariants as label
use Rattle.refutation_log.specs.declared.step.Step.TheVariants as step
use Rattle.search_logs.specs.Free.{IsFreeClause}

-- the label of a match
abbrev pub IsMatchLabel : Label → Type 0
IsMatchLabel (label.Match disjunct entities values) = Unit {0}
IsMatchLabel other = ⊥

-- the search brought in axioms of matches alone; of the clauses that it learned those alone are not counted that are empty, of
-- one literal, or of the derivation that some row of a list is last; and of the hints of each none is idle
pub record AreStepsRight (s : Spec) (log : Log) : Type 0 where
  pub demanded : (place : ℕ) (l : Label) (lits : List Lit) → slice_get log.steps place ≡ Some (step.OnDemand l lits)
      → IsMatchLabel l
  pub free : (place : ℕ) (lits : List Lit) (hints : List ℕ) → slice_get log.steps place ≡ Some (step.Learn lits hints false)
      → IsFreeClause s log.statements lits
  pub lean : (place : ℕ) (lits : List Lit) (hints : List ℕ) (counted : Bool)
      → slice_get log.steps place ≡ Some (step.Learn lits hints counted)
      → AreLean (clauses_of (take place log.steps)) lits hints
