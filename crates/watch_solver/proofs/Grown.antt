-- Steps that are added, one turn after another.
use Rattle.std.proofs.Common.{◌≡◌, ◌⊎◌, ◌<◌, ◌≤◌, ◌+◌, ◌∙◌, ℕ, Bool, true, false, List, [], ◌∷◌, ◌++◌, Contains, Option, Some, length, take, slice_get, refl, sym, ap, subst, inl, inr, arith}
use Rattle.std.proofs.lemmas.Bool.{cases_lt, false≢true}
use Rattle.std.proofs.lemmas.List.{append-nil, append_assoc, length-append, take-append-le, take_all}
use Rattle.std.proofs.lemmas.Option.{same_Some, slice_get_within}
use Rattle.currency_base.specs.Lists.{OnlyOnce}
use Rattle.currency_base.specs.declared.lit.Lit.{Lit}
use Rattle.refutation_log.specs.Steps.{clause_of, clauses_of, is_counted}
use Rattle.refutation_log.specs.Counted.{CountedAreNew, IsNew}
use Rattle.refutation_log.specs.Follows.{FollowsFrom}
use Rattle.refutation_log.specs.declared.step.Step.{Step}
use Rattle.refutation_log.specs.declared.step.Step.TheVariants.{Axiom, Learn, OnDemand}
use Rattle.lean_hints.specs.Lean.{AreLean}
use Rattle.search_state.specs.States.{Frame, HasConcluded, HasLearned, HasRefuted, IsFit, State, vars_of}
use Rattle.watch_propagate.proofs.KeptLists.{get_front, get_push}
use Rattle.watch_solver.specs.Decided.{HasGrown, IsLearnedAfter}
use Rattle.watch_solver.specs.Underway.{HasCounted, IsFinal}

-- the front of a list with more behind is the same at each place of the list
take_front : (old added new : List Step) (place : ℕ) → new ≡ old ++ added → place ≤ length old → take place new ≡ take place old
take_front old added new place is h = ap (take place) is ∙ take-append-le place old added h

-- what stands before the end stood there before
stood : (old added new : List Step) (place : ℕ) (step : Step) → new ≡ old ++ added → place < length old
    → slice_get new place ≡ Some step → slice_get old place ≡ Some step
stood old added new place step is h at = get_front old added place step h
    (ap (λ (ss : List Step). slice_get ss place) (sym is) ∙ at)

-- ---- no step is added

pub grown_none : (vars : ℕ) (old new : List Step) → new ≡ old → HasGrown vars old new
grown_none vars old new is = record {
  added = [];
  steps = is ∙ sym (append-nil old);
  learned = λ place step h at. none place step h at;
  counted = λ place step h more at. none place step h at;
  small = λ place step h at free. none place step h at;
}
  where
    none : {A : Type 0} (place : ℕ) (step : Step) → length old ≤ place → slice_get new place ≡ Some step → A
    none place step h at = let within = slice_get_within new place step at in absurd (omega (arith, h, within, ap length is))

pub counted_none : (vars : ℕ) (old new : List Step) → new ≡ old → HasCounted vars old new
counted_none vars old new is = record {
  added = [];
  steps = is ∙ sym (append-nil old);
  learned = λ place step h at. none place step h at;
  counted = λ place step h at. none place step h at;
}
  where
    none : {A : Type 0} (place : ℕ) (step : Step) → length old ≤ place → slice_get new place ≡ Some step → A
    none place step h at = let within = slice_get_within new place step at in absurd (omega (arith, h, within, ap length is))

-- ---- one step is added

-- a place behind the others is that of the step
last_place : (old new : List Step) (step other : Step) (place : ℕ) → new ≡ old ++ step ∷ [] → length old ≤ place
    → slice_get new place ≡ Some other
    → (place ≡ length old) × (step ≡ other)
last_place old new step other place is h at =
    go (get_push old step place other (ap (λ (ss : List Step). slice_get ss place) (sym is) ∙ at))
  where
    go : (slice_get old place ≡ Some other) ⊎ ((place ≡ length old) × (step ≡ other)) → (place ≡ length old) × (step ≡ other)
    go (inl before) = let within = slice_get_within old place other before in absurd (omega (arith, within, h))
    go (inr here) = here

learned_last : (vars : ℕ) (old new : List Step) (step : Step) → new ≡ old ++ step ∷ [] → IsLearnedAfter vars (clauses_of old) step
    → (place : ℕ) (other : Step) → length old ≤ place → slice_get new place ≡ Some other → IsLearnedAfter vars
    (clauses_of (take place new)) other
learned_last vars old new step is learned place other h at =
    let here = last_place old new step other place is h at in
    let whole : take place new ≡ old = take_front old (step ∷ []) new place is (omega (arith, here.0))
    ∙ take_all place old (omega (arith, here.0)) in
    subst (λ (s : Step). IsLearnedAfter vars (clauses_of (take place new)) s) here.1
    (subst (λ (ss : List Step). IsLearnedAfter vars (clauses_of ss) step) (sym whole) learned)

pub grown_one : (vars : ℕ) (old new : List Step) (step : Step) → new ≡ old ++ step ∷ [] → IsLearnedAfter vars
    (clauses_of old) step → (is_counted step ≡ false → length (clause_of step) ≤ 1) → HasGrown vars old new
grown_one vars old new step is learned small = record {
  added = step ∷ [];
  steps = is;
  learned = learned_last vars old new step is learned;
  counted = λ place other h more at. absurd (omega (arith, h, more, ap length is, length-append old (step ∷ [])));
  small = λ place other h at.
      subst (λ (s : Step). is_counted s ≡ false → length (clause_of s) ≤ 1) (last_place old new step other place is h at).1 small;
}

pub counted_one : (vars : ℕ) (old new : List Step) (step : Step) → new ≡ old ++ step ∷ [] → IsLearnedAfter vars
    (clauses_of old) step → is_counted step ≡ true
    → HasCounted vars old new
counted_one vars old new step is learned counted = record {
  added = step ∷ [];
  steps = is;
  learned = learned_last vars old new step is learned;
  counted = λ place other h at. subst (λ (s : Step). is_counted s ≡ true) (last_place old new step other place is h at).1 counted;
}

-- ---- one turn after another

pub grown_then : (vars : ℕ) (old middle new : List Step) → HasCounted vars old middle → HasGrown vars middle new
    → HasGrown vars old new
grown_then vars old middle new one other = record {
  added = one.added ++ other.added;
  steps = other.steps ∙ ap (λ (ss : List Step). ss ++ other.added) one.steps ∙ append_assoc old one.added other.added;
  learned = λ place step h at. learned place step h at (cases_lt place (length middle));
  counted = λ place step h more at. counted place step h more at (cases_lt place (length middle));
  small = λ place step h at free. small place step h at free (cases_lt place (length middle));
}
  where
    learned : (place : ℕ) (step : Step) → length old ≤ place → slice_get new place ≡ Some step →
        (place < length middle) ⊎ (length middle ≤ place)
        → IsLearnedAfter vars (clauses_of (take place new)) step
    learned place step h at (inl below) =
        subst (λ (ss : List Step). IsLearnedAfter vars (clauses_of ss) step)
        (sym (take_front middle other.added new place other.steps (omega (arith, below))))
        (one.learned place step h (stood middle other.added new place step other.steps below at))
    learned place step h at (inr above) = other.learned place step above at

    counted : (place : ℕ) (step : Step) → length old ≤ place → place + 1 < length new → slice_get new place ≡ Some step
        → (place < length middle) ⊎ (length middle ≤ place) → is_counted step ≡ true
    counted place step h more at (inl below) = one.counted place step h
        (stood middle other.added new place step other.steps below at)
    counted place step h more at (inr above) = other.counted place step above more at

    small : (place : ℕ) (step : Step) → length old ≤ place → slice_get new place ≡ Some step → is_counted step ≡ false
        → (place < length middle) ⊎ (length middle ≤ place) → length (clause_of step) ≤ 1
    small place step h at free (inl below) =
        absurd (false≢true (sym free ∙ one.counted place step h
        (stood middle other.added new place step other.steps below at)))
    small place step h at free (inr above) = other.small place step above at free

pub counted_then : (vars : ℕ) (old middle new : List Step) → HasCounted vars old middle → HasCounted vars middle new
    → HasCounted vars old new
counted_then vars old middle new one other = record {
  added = one.added ++ other.added;
  steps = other.steps ∙ ap (λ (ss : List Step). ss ++ other.added) one.steps ∙ append_assoc old one.added other.added;
  learned = λ place step h at. learned place step h at (cases_lt place (length middle));
  counted = λ place step h at. counted place step h at (cases_lt place (length middle));
}
  where
    learned : (place : ℕ) (step : Step) → length old ≤ place → slice_get new place ≡ Some step →
        (place < length middle) ⊎ (length middle ≤ place)
        → IsLearnedAfter vars (clauses_of (take place new)) step
    learned place step h at (inl below) =
        subst (λ (ss : List Step). IsLearnedAfter vars (clauses_of ss) step)
        (sym (take_front middle other.added new place other.steps (omega (arith, below))))
        (one.learned place step h (stood middle other.added new place step other.steps below at))
    learned place step h at (inr above) = other.learned place step above at

    counted : (place : ℕ) (step : Step) → length old ≤ place → slice_get new place ≡ Some step
        → (place < length middle) ⊎ (length middle ≤ place) → is_counted step ≡ true
    counted place step h at (inl below) = one.counted place step h (stood middle other.added new place step other.steps below at)
    counted place step h at (inr above) = other.counted place step above at

-- with the variables that a state has still
pub grown_across : (old middle : State) (first new : List Step) → middle.frame ≡ old.frame → HasCounted (vars_of old)
    first middle.steps
    → HasGrown (vars_of middle) middle.steps new → HasGrown (vars_of old) first new
grown_across old middle first new frame one other =
    grown_then (vars_of old) first middle.steps new one
    (subst (λ (n : ℕ). HasGrown n middle.steps new) (ap (λ (f : Frame). length f.statements) frame) other)

pub counted_across : (old middle : State) (first new : List Step) → middle.frame ≡ old.frame → HasCounted
    (vars_of old) first middle.steps
    → HasCounted (vars_of middle) middle.steps new → HasCounted (vars_of old) first new
counted_across old middle first new frame one other =
    counted_then (vars_of old) first middle.steps new one
    (subst (λ (n : ℕ). HasCounted n middle.steps new) (ap (λ (f : Frame). length f.statements) frame) other)

-- ---- what a state learns

pub learned_after : (s : State) (lits : List Lit) (hints : List ℕ) (counted : Bool) → FollowsFrom
    (clauses_of s.steps) lits hints → IsFit (vars_of s) lits → AreLean (clauses_of s.steps) lits hints
    → (counted ≡ true → IsNew (clauses_of s.steps) (Learn lits hints counted)) → IsLearnedAfter (vars_of s)
    (clauses_of s.steps) (Learn lits hints counted)
learned_after s lits hints counted follows fit lean new = (follows, fit, lean, new)

pub counted_learned : (old new : State) → HasLearned old new → HasCounted (vars_of old) old.steps new.steps
counted_learned old new h =
    counted_one (vars_of old) old.steps new.steps (Learn h.lits h.hints true) h.steps
    (learned_after old h.lits h.hints true h.derived.follows h.derived.fit h.derived.lean (λ e. h.is_new)) refl

pub grown_concluded : (old new : State) (lits : List Lit) → HasConcluded old new lits → length lits ≤ 1
    → HasGrown (vars_of old) old.steps new.steps
grown_concluded old new lits h few =
    grown_one (vars_of old) old.steps new.steps (Learn lits h.hints false) h.steps
    (learned_after old lits h.hints false h.derived.follows h.derived.fit h.derived.lean
    (λ e. let no : ⊥ = cc in absurd no))
    (λ free. few)

-- of a clause whose literals are all the goal, none twice, there is at most one
few_lits : (goal : Option Lit) (lits : List Lit) → ((lit : Lit) → Contains lits lit → goal ≡ Some lit) → OnlyOnce lits
    → length lits ≤ 1
few_lits goal [] all once = omega arith
few_lits goal (x ∷ []) all once = omega arith
few_lits goal (x ∷ y ∷ more) all once =
    let same : x ≡ y = same_Some x y (sym (all x (0, omega arith, refl)) ∙ all y (1, omega arith, refl)) in
    let no : 0 ≡ 1 = once 0 1 y (ap Some same) refl in
    absurd (omega (arith, no))

pub grown_refuted : (old new : State) (goal : Option Lit) → HasRefuted old new → IsFinal old.trail goal
    → HasGrown (vars_of old) old.steps new.steps
grown_refuted old new goal h last =
    grown_concluded old new h.lits h.concluded
    (few_lits goal h.lits (λ lit c. last lit (h.assumed lit c)) h.concluded.derived.fit.once)

-- ---- the law

new_after : (vars : ℕ) (earlier : List (List Lit)) (step : Step) → IsLearnedAfter vars earlier step
    → is_counted step ≡ true → IsNew earlier step
new_after vars earlier (Axiom label lits) learned counted = absurd learned
new_after vars earlier (OnDemand label lits) learned counted = absurd learned
new_after vars earlier (Learn lits hints counted) learned is = learned.3 is

pub stay_new : (vars : ℕ) (old new : List Step) → CountedAreNew old → HasGrown vars old new → CountedAreNew new
stay_new vars old new were grown place step at counted = go (cases_lt place (length old))
  where
    go : (place < length old) ⊎ (length old ≤ place) → IsNew (clauses_of (take place new)) step
    go (inl below) =
        subst (λ (ss : List Step). IsNew (clauses_of ss) step)
        (sym (take_front old grown.added new place grown.steps (omega (arith, below))))
        (were place step (stood old grown.added new place step grown.steps below at) counted)
    go (inr above) = new_after vars (clauses_of (take place new)) step (grown.learned place step above at) counted
