-- Laws of literals and axioms, as statements.
use Rattle.std.specs.Prelude.{◌≡◌, ◌⊎◌, ℕ, Bool, true, List}
use Rattle.currency_base.specs.Literals.{negation}
use Rattle.currency_base.specs.declared.lit.Lit.{Lit}
use Rattle.spec_model.specs.Spec.{Spec}
use Rattle.spec_model.specs.Completion.{Rankings}
use Rattle.spec_model.specs.Consistent.{IsConsistent}
use Rattle.spec_model.specs.Facts.{IsSpecification}
use Rattle.spec_model.specs.declared.relation.Relation.{Relation}
use Rattle.refutation_log.specs.declared.statement.Statement.{Statement}
use Rattle.refutation_log.specs.declared.step.Label.{Label}
use Rattle.log_axioms.specs.Axioms.{is_axiom}
use Rattle.log_axioms.specs.Posed.{AreAnswersOver, Posed, passing}
use Rattle.log_axioms.specs.Truth.{LitHolds, ClauseHolds}

-- every axiom of a specification, and of what is posed of it, is true in every consistent completion of it, where each
-- tuple is one of the answers that the query has as an answer over the current instance
abbrev pub AxiomsHoldOver : (ℕ → Type 0) → Type 0
AxiomsHoldOver answers = (s : Spec) → IsSpecification s → (c : Rankings) → IsConsistent s c
    → (posed : Posed) → AreAnswersOver s.relations posed c answers
    → (statements : List Statement) (l : Label) (lits : List Lit) → is_axiom s posed statements l lits ≡ true
    → ClauseHolds s.relations c answers statements lits

-- a literal is true in rankings, whatever these are, or it is not
abbrev pub LiteralsAreDecidedOver : (ℕ → Type 0) → Type 0
LiteralsAreDecidedOver answers = (relations : List Relation) (c : Rankings) (statements : List Statement) (lit : Lit)
    → LitHolds relations c answers statements lit ⊎ (LitHolds relations c answers statements lit → ⊥)

-- a literal and its negation are never both true
abbrev pub LiteralsExcludeOver : (ℕ → Type 0) → Type 0
LiteralsExcludeOver answers = (relations : List Relation) (c : Rankings) (statements : List Statement) (lit : Lit)
    → LitHolds relations c answers statements lit → LitHolds relations c answers statements (negation lit) → ⊥

-- where a literal is not true, its negation is
abbrev pub LiteralsComplementOver : (ℕ → Type 0) → Type 0
LiteralsComplementOver answers = (relations : List Relation) (c : Rankings) (statements : List Statement) (lit : Lit)
    → (LitHolds relations c answers statements lit → ⊥) → LitHolds relations c answers statements (negation lit)

-- ---- a clause ranges over tests of which tuples are answers; that the laws hold for whatever are answers, if this is
-- decided where it has to be, is said by lemmas: axiom_true of proofs/Sound, and decided, negated and other of
-- proofs/Truths

abbrev pub AxiomsHold : Type 0
AxiomsHold = (answers : ℕ → Bool) → AxiomsHoldOver (passing answers)

abbrev pub LiteralsAreDecided : Type 0
LiteralsAreDecided = (answers : ℕ → Bool) → LiteralsAreDecidedOver (passing answers)

abbrev pub LiteralsExclude : Type 0
LiteralsExclude = (answers : ℕ → Bool) → LiteralsExcludeOver (passing answers)

abbrev pub LiteralsComplement : Type 0
LiteralsComplement = (answers : ℕ → Bool) → LiteralsComplementOver (passing answers)
