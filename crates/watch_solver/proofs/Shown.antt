-- What is found is shown, and no further counted step is due but where no unit is left.
use Rattle.std.proofs.Common.{◌≡◌, ◌<◌, ◌∙◌, ℕ, Bool, true, false, List, [], ◌∷◌, ◌++◌, Option, Some, Contains, length, slice_get, refl, sym, ap, subst, inl, inr, arith}
use Rattle.std.proofs.lemmas.List.{length-map, map-append}
use Rattle.std.proofs.lemmas.List.Elements.{All-contains}
use Rattle.std.proofs.lemmas.Option.{same_Some}
use Rattle.currency_base.specs.declared.lit.Lit.{Lit}
use Rattle.search_trail.specs.Trails.{AreEntries, lits_of}
use Rattle.refutation_log.specs.Steps.{clause_of, clauses_of}
use Rattle.refutation_log.specs.Counted.{IsAtRest}
use Rattle.refutation_log.specs.declared.step.Step.{Step}
use Rattle.refutation_log.specs.declared.step.Step.TheVariants.{Learn}
use Rattle.conflict_analysis.specs.Analyses.{lits_below}
use Rattle.search_state.specs.States.{HasConcluded, HasRefuted, IsFalse, IsNotBelow, IsQuiet, IsState, State, true_lits}
use Rattle.watch_propagate.proofs.KeptLists.{contains_at, get_end, same_get}
use Rattle.watch_propagate.proofs.KeptLits.{lits_consistent}
use Rattle.watch_solver.specs.Decided.{IsDue, IsStepOf, Shows}
use Rattle.watch_solver.specs.Underway.{IsAnswer, IsComplete, IsConflict, IsFinal, IsGoalBelow, solver_of}
use Rattle.watch_solver.specs.declared.found.Found.{Found}
use Rattle.watch_solver.specs.declared.found.Found.TheVariants.{Empty, Model, Proved, Spent}

-- ---- where nothing is due

none_in_nil : (lit : Lit) → Contains [] lit → ⊥
none_in_nil lit c = omega (arith, c.1)

no_rest_on_nil : (truths : List Lit) → IsAtRest truths [] → ⊥
no_rest_on_nil truths (inl h) = none_in_nil h.lit h.is_in
no_rest_on_nil truths (inr h) = none_in_nil h.first h.first_in

-- where nothing is assumed
no_due_ground : (s : State) (goal : Option Lit) → s.trail.starts ≡ [] → IsDue s.steps goal s.trail → ⊥
no_due_ground s goal none due = let few = ap length none in omega (arith, few, due.deep)

-- where a step's clause is empty
no_due_empty : (s : State) (goal : Option Lit) (place : ℕ) → IsStepOf s.steps place [] → IsDue s.steps goal s.trail → ⊥
no_due_empty s goal place is due =
    no_rest_on_nil (lits_below s.trail)
    (All-contains (IsAtRest (lits_below s.trail)) (clauses_of s.steps) [] due.at_rest
    (contains_at (clauses_of s.steps) place [] is))

-- where unit propagation is at rest
no_due_quiet : (s : State) (goal : Option Lit) → AreEntries s.trail → IsQuiet s (true_lits s) → IsDue s.steps goal s.trail → ⊥
no_due_quiet s goal are quiet due = rest (All-contains (IsAtRest (lits_of s.trail)) (clauses_of s.steps) due.clause
    quiet due.is_clause)
  where
    rest : IsAtRest (lits_of s.trail) due.clause → ⊥
    rest (inl h) = lits_consistent s.trail are h.lit h.is_true (due.all_false h.lit h.is_in)
    rest (inr h) = h.first_open.not_false (due.all_false h.first h.first_in)

-- ---- answers

not_due : (s : State) (goal : Option Lit) (left : ℕ) (found : Found) → Shows (solver_of s false) goal left found →
    (IsDue s.steps goal s.trail → ⊥)
    → IsAnswer s goal left found
not_due s goal left found shown not = record { shown = shown; exact = λ none due. absurd (not due) }

pub answer_model : (s : State) (goal : Option Lit) (left : ℕ) → AreEntries s.trail → IsComplete s goal
    → IsAnswer s goal left Model
answer_model s goal left are done =
    not_due s goal left Model
    (record { no_free = done.whole.no_free; at_rest = done.quiet; goal_false = done.whole.goal_false })
    (no_due_quiet s goal are done.quiet)

pub answer_empty : (s : State) (goal : Option Lit) (place left : ℕ) → IsStepOf s.steps place []
    → IsAnswer s goal left (Empty place)
answer_empty s goal place left is = not_due s goal left (Empty place) is (no_due_empty s goal place is)

pub answer_proved : (s : State) (goal : Option Lit) (lit : Lit) (place left : ℕ) → goal ≡ Some lit
    → IsStepOf s.steps place (lit ∷ []) → s.trail.starts ≡ []
    → IsAnswer s goal left (Proved place)
answer_proved s goal lit place left is_goal is ground = not_due s goal left (Proved place) (lit, is_goal, is)
    (no_due_ground s goal ground)

pub answer_spent : (s : State) (goal : Option Lit) (left : ℕ) → left ≡ 0 → IsDue s.steps goal s.trail → IsAnswer s goal left Spent
answer_spent s goal left none due = record { shown = (none, due); exact = λ e d. refl }

-- a conflict above the goal's level
pub is_due : (s : State) (goal : Option Lit) (place : ℕ) → IsState s → IsConflict s place → 0 < length s.trail.starts
    → IsGoalBelow s.trail goal
    → IsDue s.steps goal s.trail
is_due s goal place state conflict deep below = record {
  clause = falses.lits;
  is_clause = contains_at (clauses_of s.steps) place falses.lits falses.is_clause;
  all_false = falses.all_false;
  deep = deep;
  lit = high.lit;
  is_in = subst (λ (c : List Lit). Contains c high.lit) (same_get (clauses_of s.steps) place high.lits falses.lits
      high.is_clause falses.is_clause) high.is_in;
  not_below = high.not_below;
  goal_below = below;
  at_rest = go s.refuted refl;
}
  where
    falses : IsFalse s place
    falses = conflict.all_false

    high : IsNotBelow s place
    high = conflict.level deep

    go : (b : Bool) → s.refuted ≡ b → IsQuiet s (lits_below s.trail)
    go false e = state.at_rest_below e deep
    go true e = let few = ap length (state.refuted e) in absurd (omega (arith, few, deep))

-- ---- steps that end a decision

-- the clause of the step that was added last
last_clause : (old new : List Step) (step : Step) (place : ℕ) → new ≡ old ++ step ∷ [] → place ≡ length old
    → IsStepOf new place (clause_of step)
last_clause old new step place is at =
    ap (slice_get (clauses_of new)) (at ∙ sym (length-map old clause_of))
    ∙ ap (λ (cs : List (List Lit)). slice_get cs (length (clauses_of old)))
    (ap clauses_of is ∙ map-append clause_of old (step ∷ []))
    ∙ get_end (clauses_of old) (clause_of step)

pub answer_derived : (old new : State) (goal : Option Lit) (lit : Lit) (place left : ℕ) → HasConcluded old new
    (lit ∷ []) → place ≡ length old.steps → goal ≡ Some lit
    → IsAnswer new goal left (Proved place)
answer_derived old new goal lit place left h at is_goal =
    answer_proved new goal lit place left is_goal (last_clause old.steps new.steps (Learn (lit ∷ []) h.hints false)
    place h.steps at) h.starts

-- of a clause whose literals are all the goal, with none twice
only_goal : (goal : Option Lit) (lits : List Lit) → ((lit : Lit) → Contains lits lit → goal ≡ Some lit) →
    ((i j : ℕ) (x : Lit) → slice_get lits i ≡ Some x → slice_get lits j ≡ Some x → i ≡ j)
    → (lits ≡ [] → ⊥) → (lit : Lit) × (goal ≡ Some lit) × (lits ≡ lit ∷ [])
only_goal goal [] all once some = absurd (some refl)
only_goal goal (x ∷ []) all once some = (x, all x (0, omega arith, refl), refl)
only_goal goal (x ∷ y ∷ more) all once some =
    let same : x ≡ y = same_Some x y (sym (all x (0, omega arith, refl)) ∙ all y (1, omega arith, refl)) in
    let no : 0 ≡ 1 = once 0 1 y (ap Some same) refl in
    absurd (omega (arith, no))

pub answer_refuted : (old new : State) (goal : Option Lit) (place left : ℕ) → HasRefuted old new
    → place ≡ length old.steps → IsFinal old.trail goal
    → (IsStepOf new.steps place [] → ⊥) → IsAnswer new goal left (Proved place)
answer_refuted old new goal place left h at last other =
    answer_proved new goal one.0 place left one.1 (is ∙ ap Some one.2) h.concluded.starts
  where
    is : IsStepOf new.steps place h.lits
    is = last_clause old.steps new.steps (Learn h.lits h.concluded.hints false) place h.concluded.steps at

    one : (lit : Lit) × (goal ≡ Some lit) × (h.lits ≡ lit ∷ [])
    one = only_goal goal h.lits (λ lit c. last lit (h.assumed lit c)) h.concluded.derived.fit.once
        (λ none. other (is ∙ ap Some none))
