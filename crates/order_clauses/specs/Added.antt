-- What is put after the steps of a log: axioms, under labels that are listed.
use Rattle.std.specs.Prelude.{◌≡◌, ◌⊎◌, ℕ, zero, suc, List, [], ◌∷◌, ◌++◌, Contains}
use Rattle.currency_base.specs.Lists.{OnlyOnce}
use Rattle.currency_base.specs.declared.lit.Lit.{Lit}
use Rattle.refutation_log.specs.declared.statement.Statement.{Statement}
use Rattle.refutation_log.specs.declared.step.Label.{Label}
use Rattle.refutation_log.specs.declared.step.Step.{Step}
use Rattle.order_literals.specs.Said.{Said, Says}
use Rattle.order_literals.specs.Axioms.{IsAxiom}
use Rattle.order_clauses.specs.Clauses.{IsAxiomStep}
use Rattle.order_clauses.specs.Subject.{Subject, variables}

-- literals say a clause one by one
abbrev pub Say : List Statement → List Lit → List Said → Type 0
Say statements [] [] = Unit {0}
Say statements (lit ∷ lits) (said ∷ clause) = Says statements lit said × Say statements lits clause
Say statements lits clause = ⊥

-- literals that say this part of a clause are put after the others
pub record Tells (statements : List Statement) (part : List Said) (old new : List Lit) : Type 0 where
  pub added : List Lit
  pub is_added : new ≡ old ++ added
  pub say : Say statements added part

-- literals that say the clause of a label one by one
pub record IsClauseOf (s : Subject) (l : Label) (lits : List Lit) : Type 0 where
  pub clause : List Said
  pub is_axiom : IsAxiom s.spec l clause
  pub say : Say (variables s) lits clause

-- the same literals, each once
pub record AreDistinctOf (lits distinct : List Lit) : Type 0 where
  pub each : (lit : Lit) → Contains distinct lit → Contains lits lit
  pub all : (lit : Lit) → Contains lits lit → Contains distinct lit
  pub once : OnlyOnce distinct

-- a step that is the axiom of a label
pub record IsStepOf (s : Subject) (l : Label) (taken : Step) : Type 0 where
  pub lits : List Lit
  pub step : IsAxiomStep s.spec (variables s) l lits taken

-- steps that are the axioms of these labels one by one
abbrev pub AreStepsOf : Subject → List Label → List Step → Type 0
AreStepsOf s [] [] = Unit {0}
AreStepsOf s (l ∷ ls) (taken ∷ steps) = IsStepOf s l taken × AreStepsOf s ls steps
AreStepsOf s ls steps = ⊥

-- the axioms of these labels are put after the steps
pub record Adds (s : Subject) (labels : List Label) (old new : List Step) : Type 0 where
  pub added : List Step
  pub is_added : new ≡ old ++ added
  pub are_steps : AreStepsOf s labels added

-- the labels that are listed for each number below a bound
unfoldable pub below : (ℕ → List Label) → ℕ → List Label
below f zero = []
below f (suc n) = below f n ++ f n

-- a literal is put after the others, unless it is among them
pub record IsAddedTo (old : List Lit) (lit : Lit) (new : List Lit) : Type 0 where
  pub there : Contains old lit → new ≡ old
  pub added : (Contains old lit → ⊥) → new ≡ old ++ lit ∷ []
  pub either : Contains old lit ⊎ (Contains old lit → ⊥)
