-- Laws of variables and parts.
use Rattle.std.specs.Prelude.{◌≡◌, ℕ, List, All, Contains, Some, slice_get}
use Rattle.currency_base.specs.Literals.{var_of}
use Rattle.currency_base.specs.declared.lit.Lit.{Lit}
use Rattle.spec_model.specs.Facts.{IsSpecification}
use Rattle.spec_model.specs.Spec.{Spec}
use Rattle.refutation_log.specs.declared.statement.Statement.{Statement}
use Rattle.refutation_log.specs.declared.statement.Statement.TheVariants as says
use Rattle.refutation_log.specs.declared.step.Label.{Label}
use Rattle.refutation_log.specs.declared.step.Step.{Step}
use Rattle.order_literals.specs.Axioms.{IsAxiom}
use Rattle.order_literals.specs.Numbers.{numbers_of}
use Rattle.order_literals.specs.Said.{Said}
use Rattle.order_literals.specs.Statements.{statements_of}
use Rattle.order_literals.specs.declared.wanted.Wanted.{Wanted}
use Rattle.order_clauses.specs.Clauses.{IsAxiomStep}
use Rattle.entity_ties.specs.Labels.{AreTies, Labelling}
use Rattle.entity_ties.specs.Parts.{list_at}
use Rattle.variable_parts.specs.Parts.{AreVariableParts, part_of}

-- every statement of a clause is of this part
pub record LiesInPart (s : Spec) (t : Labelling) (clause : List Said) : Type 0 where
  pub part : ℕ
  pub each : All (λ said. part_of t s.relations said.statement ≡ Some part) clause

-- each axiom lies in one part
abbrev pub AxiomsStayInParts : Type 0
AxiomsStayInParts = (s : Spec) (t : Labelling) (l : Label) (clause : List Said) → IsSpecification s → AreTies s t
    → IsAxiom s l clause → LiesInPart s t clause

-- the variables of all literals stand in the list of this part
pub record StandInPart (parts : List (List ℕ)) (lits : List Lit) : Type 0 where
  pub part : ℕ
  pub each : All (λ lit. Contains (list_at parts part) (var_of lit)) lits

-- the numbered statements on a specification
abbrev pub statements_on : Spec → Wanted → List Statement
statements_on s wanted = statements_of (numbers_of s.relations wanted)

-- the literals of each axiom stand in the list of one part
abbrev pub StepsStayInParts : Type 0
StepsStayInParts = (s : Spec) (wanted : Wanted) (t : Labelling) (parts : List (List ℕ)) (l : Label) (lits : List Lit)
    (taken : Step)
    → IsSpecification s → AreTies s t → AreVariableParts s (statements_on s wanted) t parts
    → IsAxiomStep s (statements_on s wanted) l lits taken → StandInPart parts lits

-- no variable stands in the lists of two parts
abbrev pub PartsAreDisjoint : Type 0
PartsAreDisjoint = (s : Spec) (statements : List Statement) (t : Labelling) (parts : List (List ℕ)) (a b var : ℕ)
    → AreVariableParts s statements t parts → Contains (list_at parts a) var → Contains (list_at parts b) var → a ≡ b

-- the variable stands in the list of a part
pub record HasPart (parts : List (List ℕ)) (var : ℕ) : Type 0 where
  pub part : ℕ
  pub stands : Contains (list_at parts part) var

-- each variable whose statement is on no answer stands in the list of a part
abbrev pub VariablesHaveParts : Type 0
VariablesHaveParts = (s : Spec) (wanted : Wanted) (t : Labelling) (parts : List (List ℕ)) (var : ℕ) (statement : Statement)
    → IsSpecification s → AreTies s t → AreVariableParts s (statements_on s wanted) t parts
    → slice_get (statements_on s wanted) var ≡ Some statement → ((tuple : ℕ) → statement ≡ says.Answer tuple → ⊥)
    → HasPart parts var

-- and a variable whose statement is on an answer in no list
abbrev pub AnswersHaveNone : Type 0
AnswersHaveNone = (s : Spec) (statements : List Statement) (t : Labelling) (parts : List (List ℕ)) (part var tuple : ℕ)
    → AreVariableParts s statements t parts → slice_get statements var ≡ Some (says.Answer tuple)
    → Contains (list_at parts part) var → ⊥
