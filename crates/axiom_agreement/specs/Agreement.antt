-- Both sides of a log say the same of labels: those who make axioms, and the one that judges them.
use Rattle.std.specs.Prelude.{◌≡◌, ◌<◌, true, List, Contains, Some, length, slice_get}
use Rattle.currency_base.specs.declared.ids.AttrId.{AttrId}
use Rattle.currency_base.specs.declared.ids.RelId.{RelId}
use Rattle.currency_base.specs.declared.ids.RowId.{RowId}
use Rattle.currency_base.specs.declared.lit.Lit.{Lit}
use Rattle.spec_model.specs.Facts.{IsSpecification}
use Rattle.spec_model.specs.Spec.{Spec}
use Rattle.spec_model.specs.declared.relation.Relation.{Relation}
use Rattle.refutation_log.specs.declared.statement.Statement.{Statement}
use Rattle.log_axioms.specs.declared.signed.Signed.{Signed}
use Rattle.refutation_log.specs.declared.step.Label.{Label}
use Rattle.refutation_log.specs.declared.step.Label.TheVariants as label
use Rattle.refutation_log.specs.declared.step.Step.{Step}
use Rattle.refutation_log.specs.declared.step.Step.TheVariants as step
use Rattle.log_axioms.specs.Axioms as judged
use Rattle.log_axioms.specs.Axioms.{axiom_of, is_axiom, lit_says}
use Rattle.log_axioms.specs.Posed.{Posed}
use Rattle.order_literals.specs.Numbers.{numbers_of}
use Rattle.order_literals.specs.Said as made
use Rattle.order_literals.specs.Said.{Said, Says}
use Rattle.value_names.specs.Names.{name_of}
use Rattle.order_literals.specs.Statements.{statements_of}
use Rattle.order_literals.specs.Axioms.{IsAxiom}
use Rattle.order_literals.specs.declared.wanted.Wanted.{Wanted}
use Rattle.order_clauses.specs.Clauses.{IsAxiomStep, AreAxioms}

-- a step that is made as the axiom of a label has, for the judge, the clause of its label, whatever is posed
abbrev pub StepsAreAxioms : Type 0
StepsAreAxioms =
    (s : Spec) (posed : Posed) (wanted : Wanted) (l : Label) (lits : List Lit) (taken : Step) → IsSpecification s
    → IsAxiomStep s (statements_of (numbers_of s.relations wanted)) l lits taken
    → is_axiom s posed (statements_of (numbers_of s.relations wanted)) l lits ≡ true

-- a label of anything but a match
abbrev pub IsNoMatch : Label → Type 0
IsNoMatch (label.Match disjunct entities values) = ⊥
IsNoMatch other = Unit {0}

-- such a label that has a clause for the judge has one for those who make axioms
abbrev pub ClausesAreAxioms : Type 0
ClausesAreAxioms =
    (s : Spec) (posed : Posed) (l : Label) (clause : List Signed) → IsSpecification s → IsNoMatch l
    → axiom_of s posed l ≡ Some clause
    → (said : List Said) × IsAxiom s l said

-- a label of a given pair, of a rule or of a copy function
abbrev pub IsOfSpecification : Label → Type 0
IsOfSpecification (label.Given rel attr earlier later) = Unit {0}
IsOfSpecification (label.Rule rule rows) = Unit {0}
IsOfSpecification (label.Copy copy place first second) = Unit {0}
IsOfSpecification other = ⊥

-- of each given pair, each choice for which a rule has an instance, and each two rows that were copied together, the axiom,
-- which is the same whatever is posed, stands among the steps
abbrev pub HasAxioms : Spec → List Step → Type 0
HasAxioms s steps =
    (posed : Posed) (l : Label) (clause : List Signed) → IsOfSpecification l → axiom_of s posed l ≡ Some clause
    → (lits : List Lit) × Contains steps (step.Axiom l lits)

-- so it is with the axioms that are brought in from the start
abbrev pub AxiomsAreWhole : Type 0
AxiomsAreWhole =
    (s : Spec) (currents : List RelId) (statements : List Statement) (steps : List Step) → IsSpecification s
    → AreAxioms s currents statements steps → HasAxioms s steps

-- ---- literals

-- a literal that is made to say that one row stands before another says so for the judge
abbrev pub OrdersAgree : Type 0
OrdersAgree =
    (relations : List Relation) (statements : List Statement) (lit : Lit) (rel : RelId) (attr : AttrId) (earlier later : RowId)
    → Says statements lit (made.before rel attr earlier later) → lit_says relations statements
    (judged.before rel attr earlier later) lit ≡ true

-- and so does one that is made to say that the value of a row is current, by the row that names the value
abbrev pub ValuesAgree : Type 0
ValuesAgree =
    (s : Spec) (statements : List Statement) (lit : Lit) (rel : RelId) (attr : AttrId) (row : RowId) (r : Relation)
    → IsSpecification s
    → slice_get s.relations rel.0 ≡ Some r → attr.0 < length r.attrs → row.0 < length r.rows
    → Says statements lit (made.last rel attr (name_of r.rows attr.0 row)) → lit_says s.relations statements
    (judged.last rel attr row) lit ≡ true
