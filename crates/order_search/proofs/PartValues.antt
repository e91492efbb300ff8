-- A trail that is a model on the variables of a part: its values are a model of the part.
use Rattle.std.proofs.Common.{◌≡◌, ◌⊎◌, ◌<◌, ◌∙◌, ℕ, Bool, true, false, not, List, ◌++◌, All, Contains, Option, Some, None, length, map, slice_get, slice_index_or, refl, sym, ap, subst, inl, inr, arith}
use Rattle.std.proofs.lemmas.List.{map-append}
use Rattle.std.proofs.lemmas.List.Elements.{All-contains, All-contains_itself, All-map, All-weaker, Contains-append_left, Contains-append_right}
use Rattle.std.proofs.lemmas.Option.{slice_get-get_or, slice_get_within}
use Rattle.currency_base.specs.Literals.{is_negative, var_of}
use Rattle.currency_base.specs.declared.lit.Lit.{Lit}
use Rattle.refutation_log.specs.Counted.{IsAtRest}
use Rattle.refutation_log.specs.Steps.{clause_of, clauses_of}
use Rattle.refutation_log.specs.declared.statement.Statement.{Statement}
use Rattle.refutation_log.specs.declared.step.Step.{Step}
use Rattle.order_literals.specs.Said.{IsClauseTrue}
use Rattle.entity_ties.specs.Parts.{list_at}
use Rattle.variable_parts.proofs.Staying.{var_of_part}
use Rattle.search_trail.specs.Trails.{AreEntries, Entry, HasNoFree, ScopedValues, Trail, lits_of, value_in, values_of}
use Rattle.search_trail.proofs.KnownValues.{as_many_values, is_value}
use Rattle.search_state.specs.States.{IsFit}
use Rattle.watch_propagate.proofs.KeptLists.{contains_at, stands_at}
use Rattle.watch_propagate.proofs.KeptLits.{lits_consistent}
use Rattle.watch_propagate.proofs.WalkLits.{lit_vars, value_false, value_none, value_true}
use Rattle.watch_solver.specs.Decided.{IsModelOn, Solver}
use Rattle.known_models.specs.Changes.{AreModelOf, HasValue, IsTrueBy, Takes}
use Rattle.known_models.specs.Laws.{ValuesAreModels}
use Rattle.order_search.specs.Kept.{IsHeld, vars_of}
use Rattle.order_search.specs.Parts.{AreParts, parted_of}
use Rattle.order_search.specs.Searches.{Subject}
use Rattle.order_search.specs.Tied.{AreMembers, scope_in}
use Rattle.order_search.specs.declared.parting.Parting.{Parting}

-- ---- values and literals

signs : (b n : Bool) → (not n ≡ b) ⊎ (n ≡ b)
signs true true = inr refl
signs true false = inl refl
signs false true = inl refl
signs false false = inr refl

module _ (t : Trail) (are : AreEntries t) where
  lit_within : (lit : Lit) → Contains (lits_of t) lit → var_of lit < t.vars
  lit_within lit is_in =
      let at = stands_at (lits_of t) lit is_in in
      All-contains (λ v. v < t.vars) (map (λ (e : Entry). var_of e.lit) t.entries) (var_of lit)
      (All-map (λ v. v < t.vars) (λ (e : Entry). var_of e.lit) t.entries are.within)
      (contains_at (map (λ (e : Entry). var_of e.lit) t.entries) at.0 (var_of lit) (lit_vars t at.0 lit at.1))

  -- the value of a literal that is true
  pub true_value : (lit : Lit) → Contains (lits_of t) lit
      → slice_get (values_of t).given (var_of lit) ≡ Some (Some (not (is_negative lit)))
  true_value lit is_in =
      by (slice_index_or (values_of t).given (var_of lit) None)
      (slice_get-get_or (values_of t).given (var_of lit) None (omega (arith, lit_within lit is_in, as_many_values t)))
    where
      of : (b : Bool) → slice_get (values_of t).given (var_of lit) ≡ Some (Some b)
          → (not (is_negative lit) ≡ b) ⊎ (is_negative lit ≡ b)
          → slice_get (values_of t).given (var_of lit) ≡ Some (Some (not (is_negative lit)))
      of b is (inl e) = is ∙ ap (λ (x : Bool). Some (Some x)) (sym e)
      of b is (inr e) =
          absurd (lits_consistent t are lit is_in (value_false (lits_of t) lit b (is_value t (var_of lit) (Some b) is) e))

      by : (o : Option Bool) → slice_get (values_of t).given (var_of lit) ≡ Some o
          → slice_get (values_of t).given (var_of lit) ≡ Some (Some (not (is_negative lit)))
      by None is =
          let at = stands_at (lits_of t) lit is_in in
          absurd (value_none (lits_of t) (var_of lit) at.0 lit (is_value t (var_of lit) None is) at.1 refl)
      by (Some b) is = of b is (signs b (is_negative lit))

  module _ (none : HasNoFree (values_of t)) where
    -- a variable of the scope has a value
    pub has_value : (var : ℕ) → Contains t.scope var → var < t.vars → HasValue (values_of t).given var
    has_value var is_in within =
        by (slice_index_or (values_of t).given var None)
        (slice_get-get_or (values_of t).given var None (omega (arith, within, as_many_values t)))
      where
        by : (o : Option Bool) → slice_get (values_of t).given var ≡ Some o → HasValue (values_of t).given var
        by None is = absurd (none var (record { is_in = is_in; free = is }))
        by (Some b) is = record { value = b; is_value = is }

    -- a clause at rest whose variables are all of the scope has a literal that is true
    pub clause_true : (clause : List Lit) → All (λ lit. Contains t.scope (var_of lit)) clause
        → All (λ lit. var_of lit < t.vars) clause → IsAtRest (lits_of t) clause → IsTrueBy (values_of t).given clause
    clause_true clause of within (inl h) = record { lit = h.lit; is_in = h.is_in; is_true = true_value h.lit h.is_true }
    clause_true clause of within (inr h) =
        let v = has_value (var_of h.first) (All-contains (λ (l : Lit). Contains t.scope (var_of l)) clause h.first of h.first_in)
        (All-contains (λ (l : Lit). var_of l < t.vars) clause h.first within h.first_in) in
        let is = is_value t (var_of h.first) (Some v.value) v.is_value in
        absurd (shut v.value is (signs v.value (is_negative h.first)))
      where
        shut : (b : Bool) → value_in (lits_of t) (var_of h.first) ≡ Some b
            → (not (is_negative h.first) ≡ b) ⊎ (is_negative h.first ≡ b) → ⊥
        shut b is (inl e) = h.first_open.not_true (value_true (lits_of t) h.first b is e)
        shut b is (inr e) = h.first_open.not_false (value_false (lits_of t) h.first b is e)

-- ---- the values are a model of the part

-- each clause whose variables are all of the part is true by them
pub part_true : (t : Trail) (steps : List Step) (goal : Option Lit) → AreEntries t
    → All (λ step. IsFit t.vars (clause_of step)) steps → IsModelOn steps goal t → (clause : List Lit)
    → Contains (clauses_of steps) clause → All (λ lit. Contains t.scope (var_of lit)) clause
    → IsTrueBy (values_of t).given clause
part_true t steps goal are fit on clause is_in of =
    let here = All-contains (λ (c : List Lit). IsFit t.vars c) (clauses_of steps) clause
    (All-map (λ (c : List Lit). IsFit t.vars c) clause_of steps fit) is_in in
    clause_true t are on.no_free clause of here.within
    (All-contains (IsAtRest (lits_of t)) (clauses_of steps) clause on.at_rest is_in)

-- the solver's trail is a model on a part, and on the answers that lie in it
pub record IsOnPart (s : Subject) (g : Parting) (solver : Solver) (goal : Option Lit) (part : ℕ) : Type 0 where
  pub statements : solver.frame.statements ≡ vars_of s
  pub vars : solver.trail.vars ≡ length solver.frame.statements
  pub fit : All (λ step. IsFit (length solver.frame.statements) (clause_of step)) solver.steps
  pub entries : AreEntries solver.trail
  pub scope : solver.trail.scope ≡ scope_in g part
  pub on : IsModelOn solver.steps goal solver.trail

pub on_part : (s : Subject) (g : Parting) (solver : Solver) (goal : Option Lit) (part : ℕ) (marks : List Bool) (t : Trail)
    → IsHeld s solver marks → solver.trail.vars ≡ length solver.frame.statements
    → All (λ step. IsFit (length solver.frame.statements) (clause_of step)) solver.steps → t ≡ solver.trail → AreEntries t
    → solver.trail.scope ≡ scope_in g part → IsModelOn solver.steps goal solver.trail → IsOnPart s g solver goal part
on_part s g solver goal part marks t held vars fit same are scope on = record {
  statements = held.search.log.statements;
  vars = vars;
  fit = fit;
  entries = subst AreEntries same are;
  scope = scope;
  on = on;
}

module _ (s : Subject) (g : Parting) (solver : Solver) (goal : Option Lit) (part : ℕ) (are : AreParts s g.parts)
    (members : AreMembers s g) (is : IsOnPart s g solver goal part) where
  many : solver.trail.vars ≡ length (vars_of s)
  many = is.vars ∙ ap (λ (ss : List Statement). length ss) is.statements

  -- a variable of the part is of the scope
  pub of_scope : (var : ℕ) → Contains (list_at g.parts.parts part) var → Contains (scope_in g part) var
  of_scope var is_in = Contains-append_left (list_at g.parts.parts part) (list_at g.members part) var is_in

  pub clause_by : (clause : List Lit) → Contains (clauses_of solver.steps) clause
      → All (λ lit. Contains (scope_in g part) (var_of lit)) clause → IsTrueBy (values_of solver.trail).given clause
  clause_by clause is_in within =
      part_true solver.trail solver.steps goal is.entries
      (subst (λ (n : ℕ). All (λ step. IsFit n (clause_of step)) solver.steps) (sym is.vars) is.fit) is.on clause is_in
      (subst (λ (scope : List ℕ). All (λ lit. Contains scope (var_of lit)) clause) (sym is.scope) within)

  in_part : (clause : List Lit) → All (λ lit. Contains (list_at g.parts.parts part) (var_of lit)) clause
      → All (λ lit. Contains (scope_in g part) (var_of lit)) clause
  in_part clause within =
      All-weaker (λ lit. Contains (list_at g.parts.parts part) (var_of lit)) (λ lit. Contains (scope_in g part) (var_of lit))
      (λ lit here. of_scope (var_of lit) here) clause within

  value_at : (var : ℕ) → Contains (scope_in g part) var → var < length (vars_of s)
      → HasValue (values_of solver.trail).given var
  value_at var is_in below =
      has_value solver.trail is.entries is.on.no_free var
      (subst (λ (scope : List ℕ). Contains scope var) (sym is.scope) is_in) (omega (arith, below, many))

  value_by : (var : ℕ) → Contains (list_at g.parts.parts part) var → HasValue (values_of solver.trail).given var
  value_by var is_in =
      let of = var_of_part s.spec (vars_of s) g.parts.ties g.parts.parts are.parts part var is_in in
      value_at var (of_scope var is_in) (slice_get_within (vars_of s) var of.statement of.is_statement)

  member_value : (var : ℕ) → Contains (list_at g.members part) var → HasValue (values_of solver.trail).given var
  member_value var is_in =
      let of = members.each part var is_in in
      value_at var (Contains-append_right (list_at g.parts.parts part) (list_at g.members part) var is_in)
      (slice_get_within (vars_of s) var _ of.says)

  -- the answers that lie in the part have values
  pub members_by : All (HasValue (values_of solver.trail).given) (list_at g.members part)
  members_by =
      All-weaker (Contains (list_at g.members part)) (HasValue (values_of solver.trail).given) member_value
      (list_at g.members part) (All-contains_itself (list_at g.members part))

  -- a clause of the front of the steps is one of all
  clause_later : (axioms later : List Step) → solver.steps ≡ axioms ++ later → (clause : List Lit)
      → Contains (clauses_of axioms) clause → Contains (clauses_of solver.steps) clause
  clause_later axioms later e clause is_in =
      let both : clauses_of (axioms ++ later) ≡ clauses_of axioms ++ clauses_of later = map-append clause_of axioms later in
      subst (λ (cs : List (List Lit)). Contains cs clause) (sym (ap clauses_of e ∙ both))
      (Contains-append_left (clauses_of axioms) (clauses_of later) clause is_in)

  pub model_of_part : ValuesAreModels → (marks : List Bool) → IsHeld s solver marks
      → AreModelOf (parted_of s g.parts) (values_of solver.trail).given part
  model_of_part law marks held =
      let begins = held.search.begins in
      law (parted_of s g.parts) part (values_of solver.trail).given begins.axioms begins.are_axioms
      (as_many_values solver.trail ∙ many)
      (All-weaker (Contains (list_at g.parts.parts part)) (HasValue (values_of solver.trail).given) value_by
      (list_at g.parts.parts part) (All-contains_itself (list_at g.parts.parts part)))
      (λ lits is_in within.
      clause_by lits (clause_later begins.axioms begins.later begins.steps_are lits is_in) (in_part lits within))

  -- truths that take values of variables make each clause true whose variables are of these and of the scope
  pub takes_true : (vars : List ℕ) (old truths : List Bool) → Takes vars (values_of solver.trail).given old truths
      → (clause : List Lit) → Contains (clauses_of solver.steps) clause
      → All (λ lit. Contains (scope_in g part) (var_of lit)) clause → All (λ lit. Contains vars (var_of lit)) clause
      → IsClauseTrue truths clause
  takes_true vars old truths takes clause is_in within taken =
      let found = clause_by clause is_in within in
      record {
        lit = found.lit;
        is_in = found.is_in;
        is_true = takes.taken (var_of found.lit) (not (is_negative found.lit))
            (All-contains (λ (lit : Lit). Contains vars (var_of lit)) clause found.lit taken found.is_in) found.is_true;
      }

-- so do those that take the values of the whole scope
pub scope_true : (s : Subject) (g : Parting) (solver : Solver) (goal : Option Lit) (part : ℕ) → AreParts s g.parts
    → AreMembers s g → IsOnPart s g solver goal part → (old truths : List Bool)
    → Takes (scope_in g part) (values_of solver.trail).given old truths → (clause : List Lit)
    → Contains (clauses_of solver.steps) clause
    → ((lit : Lit) → Contains clause lit → Contains (scope_in g part) (var_of lit)) → IsClauseTrue truths clause
scope_true s g solver goal part are members is old truths takes clause is_in of =
    let all : All (λ lit. Contains (scope_in g part) (var_of lit)) clause =
    All-weaker (Contains clause) (λ lit. Contains (scope_in g part) (var_of lit)) of clause (All-contains_itself clause) in
    takes_true s g solver goal part are members is (scope_in g part) old truths takes clause is_in all all

-- as it is told
pub model_as : (s : Subject) (g : Parting) (solver : Solver) (goal : Option Lit) (part : ℕ) → AreParts s g.parts
    → AreMembers s g → IsOnPart s g solver goal part → ValuesAreModels → (marks : List Bool) → IsHeld s solver marks
    → (v : ScopedValues) (t : Trail) → v ≡ values_of t → t ≡ solver.trail → AreModelOf (parted_of s g.parts) v.given part
model_as s g solver goal part are members is law marks held v t same_values same_trail =
    subst (λ (x : ScopedValues). AreModelOf (parted_of s g.parts) x.given part) (sym (same_values ∙ ap values_of same_trail))
    (model_of_part s g solver goal part are members is law marks held)

pub members_as : (s : Subject) (g : Parting) (solver : Solver) (goal : Option Lit) (part : ℕ) → AreParts s g.parts
    → AreMembers s g → IsOnPart s g solver goal part → (v : ScopedValues) (t : Trail) → v ≡ values_of t → t ≡ solver.trail
    → All (HasValue v.given) (list_at g.members part)
members_as s g solver goal part are members is v t same_values same_trail =
    subst (λ (x : ScopedValues). All (HasValue x.given) (list_at g.members part)) (sym (same_values ∙ ap values_of same_trail))
    (members_by s g solver goal part are members is)
