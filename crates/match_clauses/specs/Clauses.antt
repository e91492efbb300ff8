-- The literals of the axiom of a match.
use Rattle.std.specs.Prelude.{◌≡◌, ◌⊎◌, ◌+◌, ◌<◌, ◌^◌, ◌++◌, ℕ, true, List, All, Contains, Some, length, slice_get}
use Rattle.currency_base.specs.Lists.{OnlyOnce}
use Rattle.currency_base.specs.Literals.{var_of, negation}
use Rattle.currency_base.specs.declared.ids.AttrId.{AttrId}
use Rattle.currency_base.specs.declared.ids.EntId.{EntId}
use Rattle.currency_base.specs.declared.ids.RelId.{RelId}
use Rattle.currency_base.specs.declared.ids.RowId.{RowId}
use Rattle.currency_base.specs.declared.lit.Lit.{Lit}
use Rattle.currency_base.specs.declared.value.Value.{Value}
use Rattle.query_model.specs.declared.query.Atom.{Atom}
use Rattle.query_model.specs.declared.query.Match.{Match}
use Rattle.query_model.specs.declared.query.Query.{Query}
use Rattle.spec_model.specs.Completion.{Rankings, IsCompletion}
use Rattle.spec_model.specs.Spec.{Spec}
use Rattle.spec_model.specs.declared.relation.Relation.{Relation}
use Rattle.refutation_log.specs.declared.statement.Statement.{Statement}
use Rattle.refutation_log.specs.declared.statement.Statement.TheVariants as says
use Rattle.refutation_log.specs.declared.step.Label.TheVariants as label
use Rattle.log_axioms.specs.Axioms.{is_axiom}
use Rattle.log_axioms.specs.Posed.{Posed}
use Rattle.order_clauses.specs.Clauses.{AreLits}
use Rattle.order_literals.specs.Numbers.{Numbers, is_wanted, numbers_of}
use Rattle.order_literals.specs.Said.{Said, Says, last, positive}
use Rattle.order_literals.specs.Statements.{statements_of}
use Rattle.order_literals.specs.Truth.{IsCurrent}
use Rattle.order_literals.specs.declared.wanted.Wanted.{Wanted}
use Rattle.match_clauses.specs.Matched.{IsMatchIn, IsPosedAt}

-- a literal is the negation of one that says of a value that it is current, and it is in the completion
pub record IsCurrentDenied (relations : List Relation) (c : Rankings) (statements : List Statement) (lit : Lit) : Type 0 where
  pub rel : RelId
  pub attr : AttrId
  pub row : RowId
  pub says : Says statements (negation lit) (last rel attr row)
  pub is_current : IsCurrent relations c rel.0 attr.0 row

-- a literal says that the tuple at a place is an answer
abbrev pub SaysAnswer : List Statement → ℕ → Lit → Type 0
SaysAnswer statements answer lit = Says statements lit (positive (says.Answer answer))

-- the literals of the axiom of a match over the current instance of a completion, whose tuple stands first at a place: they are
-- the clause of its label, each once; one says that the tuple is an answer, and each other one denies a value that is current
pub record AreMatchLits (s : Spec) (wanted : Wanted) (query : Query) (c : Rankings) (m : Match) (answer : ℕ)
    (lits : List Lit) : Type 0 where
  pub judged : (posed : Posed) (tuple : List Value) → IsMatchIn s.relations c query tuple m → IsPosedAt posed query tuple answer
      → is_axiom s posed (statements_of (numbers_of s.relations wanted)) (label.Match m.disjunct m.entities m.values) lits ≡ true
  pub within : All (λ lit. var_of lit < length (statements_of (numbers_of s.relations wanted))) lits
  pub once : OnlyOnce lits
  pub each : (lit : Lit) → Contains lits lit → SaysAnswer (statements_of (numbers_of s.relations wanted)) answer lit
      ⊎ IsCurrentDenied s.relations c (statements_of (numbers_of s.relations wanted)) lit
  pub has_answer : (lit : Lit) × Contains lits lit × SaysAnswer (statements_of (numbers_of s.relations wanted)) answer lit

-- ---- what is made part by part

-- the numbers are those of a specification, and it is a completion of this
pub record IsSource (s : Spec) (n : Numbers) (wanted : Wanted) (c : Rankings) : Type 0 where
  pub numbers : n ≡ numbers_of s.relations wanted
  pub completion : IsCompletion s.relations c

-- terms for attributes of an entity of one of the relations, whose current values are wanted
pub record AreTermsOf (s : Spec) (wanted : Wanted) (rel : RelId) (ent : EntId) (terms : ℕ) : Type 0 where
  pub relation : Relation
  pub is_relation : slice_get s.relations rel.0 ≡ Some relation
  pub ent_within : ent.0 < length relation.entities
  pub as_many : terms ≡ length relation.attrs
  pub few : terms < 2 ^ 32
  pub are_wanted : is_wanted wanted.currents rel.0 ≡ true

-- an atom of such an entity: a term for its name, and those for its attributes
pub record IsAtomOf (s : Spec) (wanted : Wanted) (atom : Atom) (ent : EntId) : Type 0 where
  pub terms : ℕ
  pub one_more : length atom.terms ≡ terms + 1
  pub are_terms : AreTermsOf s wanted atom.relation ent terms

-- atoms of such entities, one by one
pub record AreAtomsOf (s : Spec) (wanted : Wanted) (atoms : List Atom) (entities : List EntId) : Type 0 where
  pub per_atom : length entities ≡ length atoms
  pub each : (k : ℕ) (atom : Atom) (ent : EntId) → slice_get atoms k ≡ Some atom → slice_get entities k ≡ Some ent
      → IsAtomOf s wanted atom ent

-- literals that say this part of a clause join those of the clause so far, each once
abbrev pub Puts : List Statement → List Said → List Lit → List Lit → Type 0
Puts statements part old new = (clause : List Said) → AreLits statements clause old → AreLits statements (clause ++ part) new
