-- Steps of a log.
use Rattle.std.specs.Prelude.{Bool, true, false, List, map}
use Rattle.currency_base.specs.declared.lit.Lit.{Lit}
use Rattle.refutation_log.specs.declared.step.Label.{Label}
use Rattle.refutation_log.specs.declared.step.Label.TheVariants as label
use Rattle.refutation_log.specs.declared.step.LabelRef.{LabelRef}
use Rattle.refutation_log.specs.declared.step.LabelRef.TheVariants.{Given, Transitive, Rule, Copy, Above, Top, Last, Value, Match}
use Rattle.refutation_log.specs.declared.step.Step.{Step}
use Rattle.refutation_log.specs.declared.step.Step.TheVariants as step
use Rattle.refutation_log.specs.declared.step.StepRef.{StepRef}
use Rattle.refutation_log.specs.declared.step.StepRef.TheVariants.{Axiom, OnDemand, Learn}

-- the label that is lent
abbrev pub label_of : LabelRef → Label
label_of (Given rel attr earlier later) = label.Given rel attr earlier later
label_of (Transitive rel attr first second third) = label.Transitive rel attr first second third
label_of (Rule rule rows) = label.Rule rule rows.now
label_of (Copy copy place first second) = label.Copy copy place first second
label_of (Above rel attr row other) = label.Above rel attr row other
label_of (Top rel attr row) = label.Top rel attr row
label_of (Last rel attr row) = label.Last rel attr row
label_of (Value rel attr row) = label.Value rel attr row
label_of (Match disjunct entities values) = label.Match disjunct entities.now values.now

-- the step that is lent
abbrev pub step_of : StepRef → Step
step_of (Axiom l lits) = step.Axiom (label_of l) lits.now
step_of (OnDemand l lits) = step.OnDemand (label_of l) lits.now
step_of (Learn lits hints counted) = step.Learn lits.now hints.now counted

-- the literals of a step's clause
abbrev pub clause_of : Step → List Lit
clause_of (step.Axiom l lits) = lits
clause_of (step.OnDemand l lits) = lits
clause_of (step.Learn lits hints counted) = lits

-- a step is counted: an axiom that the search brought in, or a clause that is marked as counted
abbrev pub is_counted : Step → Bool
is_counted (step.Axiom l lits) = false
is_counted (step.OnDemand l lits) = true
is_counted (step.Learn lits hints counted) = counted

-- the clauses of the steps, in order
abbrev pub clauses_of : List Step → List (List Lit)
clauses_of steps = map clause_of steps
