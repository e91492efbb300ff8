-- A model that ranks the rows is a completion; and a log where a further step is due is open.
use Rattle.std.proofs.Common.{◌≡◌, ◌<◌, ◌-◌, ◌∙◌, ℕ, Bool, true, false, not, List, ◌++◌, All, Option, Some, get_or, length, slice_get, refl, sym, ap, subst, arith}
use Rattle.std.proofs.lemmas.List.{get_or_append_left, length-append, map-append}
use Rattle.std.proofs.lemmas.List.Elements.{All-contains, All-map}
use Rattle.std.proofs.lemmas.Option.{slice_get-get_or}
use Rattle.currency_base.specs.Literals.{is_negative, var_of}
use Rattle.currency_base.specs.declared.lit.Lit.{Lit}
use Rattle.spec_model.specs.Completion.{Rankings}
use Rattle.refutation_log.specs.Counted.{IsOpenLog, holds}
use Rattle.refutation_log.specs.Steps.{clause_of, clauses_of}
use Rattle.refutation_log.specs.declared.statement.Statement.{Statement}
use Rattle.refutation_log.specs.declared.step.Step.{Step}
use Rattle.order_literals.specs.Said.{IsClauseTrue, IsLitTrue}
use Rattle.order_adequacy.specs.Laws.{IsModelOf, ModelsAreCompletions}
use Rattle.completion_build.specs.Ranked.{IsRankedBy}
use Rattle.search_trail.specs.Trails.{AreEntries, Trail, entries_up_to, values_of, whole_scope}
use Rattle.conflict_analysis.specs.Analyses.{lits_below}
use Rattle.search_state.specs.States.{IsFit}
use Rattle.watch_propagate.proofs.KeptLits.{front_of_trail_consistent}
use Rattle.watch_solver.specs.Decided.{AreTruths, IsDue, IsModel, IsModelOn, Solver, WholeScopeGivesModels, truth_in}
use Rattle.order_search.specs.Kept.{AreTrue, IsHeld, search_of, vars_of}
use Rattle.order_search.specs.Searches.{AreClausesTrue, IsCounter, Subject}

-- ---- truths

lit_true : (truths : List Bool) (lit : Lit) → var_of lit < length truths → holds (truth_in truths) lit ≡ true
    → IsLitTrue truths lit
lit_true truths lit below is = go (is_negative lit) (get_or truths (var_of lit) false) refl refl is
  where
    there : slice_get truths (var_of lit) ≡ Some (get_or truths (var_of lit) false)
    there = slice_get-get_or truths (var_of lit) false below

    go : (negative truth : Bool) → is_negative lit ≡ negative → get_or truths (var_of lit) false ≡ truth
        → holds (truth_in truths) lit ≡ true
        → IsLitTrue truths lit
    go true true n t h = let no : ⊥ = cc in absurd no
    go true false n t h = there ∙ ap Some (t ∙ ap not (sym n))
    go false true n t h = there ∙ ap Some (t ∙ ap not (sym n))
    go false false n t h = let no : ⊥ = cc in absurd no

pub model_true : (vars : ℕ) (steps : List Step) (goal : Option Lit) (truths : List Bool)
    → All (λ step. IsFit vars (clause_of step)) steps
    → IsModel vars steps goal truths → AreTrue truths steps
model_true vars steps goal truths fit model = λ k d h.
    let one = model.clauses_true k d h in
    let clause_fit = All-map (IsFit vars) clause_of steps fit k d h in
    let below = All-contains (λ (lit : Lit). var_of lit < vars) (get_or (clauses_of steps) k d) one.0 clause_fit.within one.1 in
    record { lit = one.0; is_in = one.1; is_true = lit_true truths one.0 (omega (arith, below, model.whole)) one.2 }

-- the truths of the solver's trail are a model, where the trail is one
pub model_is : WholeScopeGivesModels → (s : Subject) (solver : Solver) (marks truths : List Bool) (goal : Option Lit)
    → IsHeld s solver marks → solver.trail.scope ≡ whole_scope (length (vars_of s))
    → solver.trail.vars ≡ length solver.frame.statements
    → All (λ step. IsFit (length solver.frame.statements) (clause_of step)) solver.steps → AreEntries solver.trail
    → IsModelOn solver.steps goal solver.trail → AreTruths (values_of solver.trail).given truths
    → IsModel (length solver.frame.statements) solver.steps goal truths
model_is law s solver marks truths goal held whole vars fit are on of =
    subst (λ (n : ℕ). IsModel n solver.steps goal truths) vars
    (law solver.steps goal solver.trail truths are
    (subst (λ (n : ℕ). All (λ step. IsFit n (clause_of step)) solver.steps) (sym vars) fit)
    (whole ∙ ap (λ (ss : List Statement). whole_scope (length ss)) (sym held.search.log.statements) ∙ ap whole_scope (sym vars)) on of)

-- ---- completions

front_true : (truths : List Bool) (front more : List Step) → AreTrue truths (front ++ more) → AreTrue truths front
front_true truths front more all = λ k d h.
    let is : clauses_of (front ++ more) ≡ clauses_of front ++ clauses_of more = map-append clause_of front more in
    let whole = subst (All (IsClauseTrue truths)) is all in
    let within : k < length (clauses_of front ++ clauses_of more) = omega (
      arith,
      h,
      length-append (clauses_of front)
          (clauses_of more),
    ) in
    subst (IsClauseTrue truths) (get_or_append_left (clauses_of front) (clauses_of more) d k h) (whole k d within)

pub model_of : ModelsAreCompletions → (s : Subject) (solver : Solver) (marks truths : List Bool) (c : Rankings)
    → IsHeld s solver marks
    → length truths ≡ length (vars_of s) → AreTrue truths solver.steps → IsRankedBy s.spec.relations (vars_of s) truths c
    → IsModelOf s.spec s.wanted truths c
model_of law s solver marks truths c held whole all ranked =
    let begins = held.search.begins in
    law s.spec s.wanted held.search.within.specification begins.axioms begins.are_axioms truths whole
    (front_true truths begins.axioms begins.later (subst (AreTrue truths) begins.steps_are all)) c ranked

-- and then, where no step was put after those that are true, it is one in which the goal is false
pub counter_of : (s : Subject) (vars : ℕ) (solver new : Solver) (goal : Option Lit) (truths : List Bool)
    (c : Rankings) → IsModel vars solver.steps goal truths
    → new.steps ≡ solver.steps → IsModelOf s.spec s.wanted truths c → IsCounter (search_of s new) goal truths c
counter_of s vars solver new goal truths c model same of = record {
  model = of;
  clauses_true = subst (AreClausesTrue truths) (sym same) model.clauses_true;
  goal_false = model.goal_false;
}

-- ---- open logs

pub open_log : (steps : List Step) (goal : Option Lit) (t : Trail) → AreEntries t → IsDue steps goal t → IsOpenLog steps
open_log steps goal t are due = record {
  truths = lits_below t;
  consistent = front_of_trail_consistent t (entries_up_to t (length t.starts - 1)) are;
  at_rest = due.at_rest;
}
