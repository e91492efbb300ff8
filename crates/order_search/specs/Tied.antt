-- Answers of a query in the parts of a specification: where the matches of each lie, and what is kept of them.
use Rattle.std.specs.Prelude.{◌≡◌, ◌⊎◌, ◌++◌, ℕ, Bool, true, false, List, All, Contains, Option, Some, IfSome, length, slice_get}
use Rattle.currency_base.specs.Literals.{is_negative, var_of}
use Rattle.currency_base.specs.declared.lit.Lit.{Lit}
use Rattle.entity_ties.specs.Parts.{list_at}
use Rattle.order_literals.specs.Said.{IsClauseTrue}
use Rattle.query_model.specs.declared.query.Match.{Match}
use Rattle.refutation_log.specs.declared.statement.Statement.TheVariants as says
use Rattle.refutation_log.specs.declared.step.Step.{Step}
use Rattle.refutation_log.specs.declared.step.Step.TheVariants as step
use Rattle.spec_model.specs.Completion.{Rankings}
use Rattle.variable_parts.specs.Parts.{Parted}
use Rattle.order_search.specs.Kept.{HasMatched, IsAxiomOf, vars_of}
use Rattle.order_search.specs.Parts.{IsParting}
use Rattle.order_search.specs.Searches.{Subject}
use Rattle.order_search.specs.declared.parting.Parting.{Parting}
use Rattle.order_search.specs.declared.parting.Tie.{Tie}
use Rattle.order_search.specs.declared.parting.Tie.TheVariants as tie

-- a variable says that the tuple at a place is an answer
abbrev pub IsAnswerVar : Subject → ℕ → ℕ → Type 0
IsAnswerVar s answer var = slice_get (vars_of s) var ≡ Some (says.Answer answer)

-- the variables that a decision on a part gives values: those of the part, and those of the answers whose matches lie in it
abbrev pub scope_in : Parting → ℕ → List ℕ
scope_in g part = list_at g.parts.parts part ++ list_at g.members part

-- a variable of an answer whose matches lie in a part
pub record IsMember (s : Subject) (ties : List Tie) (part var : ℕ) : Type 0 where
  pub answer : ℕ
  pub says : IsAnswerVar s answer var
  pub is_tied : slice_get ties answer ≡ Some (tie.In part)

-- for each part these are the variables of all answers whose matches lie in it
pub record AreMembers (s : Subject) (g : Parting) : Type 0 where
  pub per_part : length g.members ≡ length g.parts.parts
  pub per_answer : length g.ties ≡ s.wanted.answers
  pub each : (part var : ℕ) → Contains (list_at g.members part) var → IsMember s g.ties part var
  pub all : (part answer var : ℕ) → slice_get g.ties answer ≡ Some (tie.In part) → IsAnswerVar s answer var
      → Contains (list_at g.members part) var

-- ---- steps

-- each literal of a clause is of a variable or of a part
abbrev pub LieIn : Parted → ℕ → ℕ → List Lit → Type 0
LieIn p part var lits = (lit : Lit) → Contains lits lit → (var_of lit ≡ var) ⊎ Contains (list_at p.parts part) (var_of lit)

-- the answer's variable is one of a part, and where the part is done, the clause is true
pub record IsTrueAtHome (g : Parting) (var : ℕ) (lits : List Lit) : Type 0 where
  pub part : ℕ
  pub member : Contains (list_at g.members part) var
  pub is_true : slice_get g.known.done part ≡ Some true → IsClauseTrue g.known.truths lits

-- the clause of a match of an answer: the answer's literal, and literals of the part in which its matches lie, if they lie in one;
-- by the known truths the answer is true, or it is one of a part, where the clause is true once the part is done
pub record IsTiedMatch (s : Subject) (g : Parting) (lits : List Lit) : Type 0 where
  pub answer : ℕ
  pub own : Lit
  pub own_in : Contains lits own
  pub says : IsAnswerVar s answer (var_of own)
  pub positive : is_negative own ≡ false
  pub is_tied : slice_get g.ties answer ≡ Some tie.Loose → ⊥
  pub home : (part : ℕ) → Contains (list_at g.members part) (var_of own) → LieIn g.parts part (var_of own) lits
  pub truth : (slice_get g.known.truths (var_of own) ≡ Some true) ⊎ IsTrueAtHome g (var_of own) lits

-- a step that is an axiom of the specification, or learned, or the clause of a match
abbrev pub IsTiedStep : Subject → Parting → Step → Type 0
IsTiedStep s g (step.Axiom l lits) = IsAxiomOf s (step.Axiom l lits) ⊎ IsTiedMatch s g lits
IsTiedStep s g (step.OnDemand l lits) = IsTiedMatch s g lits
IsTiedStep s g (step.Learn lits hints counted) = Unit {0}

abbrev pub AreTied : Subject → Parting → List Step → Type 0
AreTied s g steps = All (IsTiedStep s g) steps

-- what is kept of parts and answers, where these are the steps
pub record IsTied (s : Subject) (g : Parting) (steps : List Step) : Type 0 where
  pub parting : IsParting s g.parts g.known
  pub members : AreMembers s g
  pub are_tied : AreTied s g steps

-- steps that came to be others keep that, whatever is known
abbrev pub KeepsTied : Subject → List Step → List Step → Type 0
KeepsTied s old new = (g : Parting) → AreTied s g old → AreTied s g new

-- ---- a match more

-- the axiom of a match of an answer was put after the others, and its literals lie in a part, if one is told
pub record HasMatchedIn (s : Subject) (p : Parted) (home : Option ℕ) (c : Rankings) (m : Match) (answer : ℕ) (counted : Bool)
    (old new : List Step) : Type 0 where
  pub matched : HasMatched s c m answer counted old new
  pub var : ℕ
  pub says : IsAnswerVar s answer var
  pub home_is : IfSome home (λ part. LieIn p part var matched.lits)
