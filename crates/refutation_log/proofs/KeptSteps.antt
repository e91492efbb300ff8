-- Steps by their heads and lists.
use Rattle.std.proofs.Common.{◌≡◌, ◌+◌, ◌<◌, ◌≤◌, ◌∙◌, ℕ, zero, suc, List, [], ◌∷◌, ◌++◌, Some, length, slice_get, refl, ap, arith}
use Rattle.std.proofs.lemmas.Option.{get_or_from_slice_get}
use Rattle.currency_base.specs.declared.lit.Lit.{Lit}
use Rattle.refutation_log.specs.declared.step.Step.{Step}
use Rattle.refutation_log.specs.declared.steps.heads.Head.{Head}
use Rattle.refutation_log.specs.declared.steps.heads.Head.TheVariants.{Axiom, OnDemand, Learn}
use Rattle.refutation_log.specs.declared.steps.lists.Lists.{Lists}
use Rattle.refutation_log.specs.Steps.{clause_of, clauses_of}
use Rattle.refutation_log.specs.Kept.{list_at, step_at, steps_from, AreKept}

-- there are as many steps as heads
pub length-steps_from : (start : ℕ) (heads : List Head) (lists : Lists) → length (steps_from start heads lists) ≡ length heads
length-steps_from start [] lists = refl
length-steps_from start (head ∷ heads) lists = ap suc (length-steps_from (suc start) heads lists)

-- the step at a place
pub step_of_place : (start : ℕ) (heads : List Head) (lists : Lists) (place at : ℕ) (head : Head)
    → slice_get heads place ≡ Some head → at ≡ start + place → slice_get (steps_from start heads lists) place ≡ Some
    (step_at head lists at)
step_of_place start [] lists place at head h e = cc
step_of_place start (first ∷ heads) lists zero at head h e =
    let same : at ≡ start = omega (arith, e) in
    cc
step_of_place start (first ∷ heads) lists (suc place) at head h e =
    step_of_place (suc start) heads lists place at head h (omega (arith, e))

same_step : (head : Head) (place : ℕ) (new old : Lists) → AreKept (suc place) new old
    → step_at head new place ≡ step_at head old place
same_step head place new old kept =
    let rows = kept.rows place (omega arith) in
    let entities = kept.entities place (omega arith) in
    let values = kept.values place (omega arith) in
    let lits = kept.lits place (omega arith) in
    let hints = kept.hints place (omega arith) in
    cc

kept_before : (place before : ℕ) (new old : Lists) → before ≤ place → AreKept place new old → AreKept before new old
kept_before place before new old within kept = record {
  rows = λ k h. kept.rows k (omega arith);
  entities = λ k h. kept.entities k (omega arith);
  values = λ k h. kept.values k (omega arith);
  lits = λ k h. kept.lits k (omega arith);
  hints = λ k h. kept.hints k (omega arith);
}

-- lists that are the same before the end make the same steps
pub same_steps : (start : ℕ) (heads : List Head) (place : ℕ) (new old : Lists) → start + length heads ≤ place
    → AreKept place new old → steps_from start heads new ≡ steps_from start heads old
same_steps start [] place new old within kept = refl
same_steps start (head ∷ heads) place new old within kept =
    let first = same_step head start new old (kept_before place (suc start) new old (omega arith) kept) in
    let rest = same_steps (suc start) heads place new old (omega arith) kept in
    cc

-- one head more makes one step more
steps_end : (start : ℕ) (heads : List Head) (lists : Lists) (head : Head) (at : ℕ) → at ≡ start + length heads
    → steps_from start (heads ++ head ∷ []) lists ≡ steps_from start heads lists ++ step_at head lists at ∷ []
steps_end start [] lists head at e =
    let same : at ≡ start = omega (arith, e) in
    cc
steps_end start (first ∷ heads) lists head at e =
    ap (λ steps. step_at first lists start ∷ steps) (steps_end (suc start) heads lists head at (omega (arith, e)))

module _ (heads now : List Head) (old new : Lists) (count : ℕ) (is_count : count ≡ length heads)
    (kept : AreKept count new old) where
  -- no head more, and the steps are the same
  pub steps_kept : now ≡ heads → steps_from 0 now new ≡ steps_from 0 heads old
  steps_kept heads_are = rw heads_are (same_steps 0 heads count new old (omega arith) kept)

  -- a step is put after the others
  pub steps_pushed : (head : Head) (step : Step) → now ≡ heads ++ head ∷ [] → step_at head new count ≡ step
      → steps_from 0 now new ≡ steps_from 0 heads old ++ step ∷ []
  steps_pushed head step heads_are step_is =
      let more = steps_end 0 heads new head count (omega arith) in
      let same = same_steps 0 heads count new old (omega arith) kept in
      rw (heads_are, more, same, step_is)

clause_of_step : (head : Head) (lists : Lists) (place : ℕ) → clause_of (step_at head lists place) ≡ list_at lists.lits place
clause_of_step (Axiom label) lists place = refl
clause_of_step (OnDemand label) lists place = refl
clause_of_step (Learn counted) lists place = refl

clauses_from : (start : ℕ) (heads : List Head) (lists : Lists) (place at : ℕ) → place < length heads → at ≡ start + place
    → slice_get (clauses_of (steps_from start heads lists)) place ≡ Some (list_at lists.lits at)
clauses_from start [] lists place at h e = absurd (omega arith)
clauses_from start (head ∷ heads) lists zero at h e =
    let same : at ≡ start = omega (arith, e) in
    let clause = clause_of_step head lists start in
    cc
clauses_from start (head ∷ heads) lists (suc place) at h e =
    clauses_from (suc start) heads lists place at (omega arith) (omega (arith, e))

-- the clause of the step at a place is its list of literals
pub clause_of_place : (heads : List Head) (lists : Lists) (place : ℕ) (lits : List Lit) → place < length heads
    → slice_get lists.lits place ≡ Some lits → slice_get (clauses_of (steps_from 0 heads lists)) place ≡ Some lits
clause_of_place heads lists place lits within h =
    clauses_from 0 heads lists place place within (omega arith)
    ∙ ap Some (get_or_from_slice_get lists.lits place lits [] h)
