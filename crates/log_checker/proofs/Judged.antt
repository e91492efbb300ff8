-- A log whose first steps are judged.
use Rattle.std.proofs.Common.{◌≡◌, inl, inr, ◌<◌, ◌≤◌, ◌+◌, ◌*◌, ℕ, zero, suc, Bool, true, false, ◌||◌, List, [], ◌∷◌, ◌++◌, length, take, replicate, Some, option_map, slice_get, slice_index_or, refl, sym, ap, subst, ◌∙◌, arith}
use Rattle.std.specs.List.{list_any}
use Rattle.std.proofs.lemmas.Bool.{cases_lt}
use Rattle.std.proofs.lemmas.List.Elements.{All-get_or}
use Rattle.std.proofs.lemmas.Option.{get_or_from_slice_get, slice_get_within, slice_get-map}
use Rattle.currency_base.specs.declared.lit.Lit.{Lit}
use Rattle.spec_model.specs.Spec.{Spec}
use Rattle.refutation_log.specs.Steps.{clause_of, clauses_of}
use Rattle.refutation_log.specs.declared.statement.Statement.{Statement}
use Rattle.refutation_log.specs.declared.step.Step.{Step}
use Rattle.log_axioms.specs.Posed.{Posed}
use Rattle.log_checker.specs.Accepted.{AreAccepted, IsAcceptedStep, FailsFirst, FailsAt}
use Rattle.refutation_log.specs.Numbered.{IsNumbered, HasFewHints}
use Rattle.log_checker.specs.Shown.{Shown, is_empty, is_unit, shows_unit, IsShownBy, ShowsMore}
use Rattle.log_checker.specs.declared.fault.LogFault.{LogFault}

-- the steps before a place are accepted, the replay has their clauses, and exactly what they show is shown
pub record IsJudged (s : Spec) (posed : Posed) (statements : List Statement) (steps : List Step) (place : ℕ)
    (replay : List (List Lit)) (shown : Shown) : Type 0 where
  pub clauses : replay ≡ clauses_of (take place steps)
  pub accepted : AreAccepted s posed statements (take place steps)
  pub shown_by : IsShownBy (clauses_of (take place steps)) shown
  pub room : length shown.units ≡ 2 * length statements

-- ---- lists that grow

-- one more is one number up
plus_one : (k : ℕ) → k + 1 ≡ suc k
plus_one k = omega arith

-- one step more is taken
clauses_upto : (steps : List Step) (k : ℕ) (step : Step) → slice_get steps k ≡ Some step
    → clauses_of (take (suc k) steps) ≡ clauses_of (take k steps) ++ clause_of step ∷ []
clauses_upto [] k step e = cc
clauses_upto (s ∷ steps) zero step e = cc
clauses_upto (s ∷ steps) (suc k) step e = ap (λ cs. clause_of s ∷ cs) (clauses_upto steps k step e)

clauses_more : (steps : List Step) (k : ℕ) (step : Step) → slice_get steps k ≡ Some step
    → clauses_of (take (k + 1) steps) ≡ clauses_of (take k steps) ++ clause_of step ∷ []
clauses_more steps k step e = rw (plus_one k) (clauses_upto steps k step e)

any_push : {A : Type 0} (p : A → Bool) (xs : List A) (x : A) → list_any p (xs ++ x ∷ []) ≡ (list_any p xs || p x)
any_push p [] x = or_false (p x)
  where
    or_false : (b : Bool) → (b || false) ≡ (false || b)
    or_false true = refl
    or_false false = refl
any_push p (y ∷ xs) x = assoc (p y) (list_any p xs) (p x) (list_any p (xs ++ x ∷ [])) (any_push p xs x)
  where
    assoc : (a b c d : Bool) → d ≡ (b || c) → (a || d) ≡ ((a || b) || c)
    assoc true b c d e = refl
    assoc false b c d e = e

-- ---- the step at a place

-- the step at a place of the first ones is the step there of all
in_front : {A : Type 0} (xs : List A) (k i : ℕ) (x : A) → slice_get (take k xs) i ≡ Some x → (i < k) × (slice_get xs i ≡ Some x)
in_front [] zero i x e = cc
in_front [] (suc k) i x e = cc
in_front (y ∷ xs) zero i x e = cc
in_front (y ∷ xs) (suc k) zero x e = (omega arith, e)
in_front (y ∷ xs) (suc k) (suc i) x e = let rest = in_front xs k i x e in (let below = rest.0 in omega arith, rest.1)

-- what stands at a place of all stands there in the first ones, if they are more
pub within_front : {A : Type 0} (xs : List A) (k i : ℕ) (x : A) → i < k → slice_get xs i ≡ Some x
    → slice_get (take k xs) i ≡ Some x
within_front [] k i x h e = cc
within_front (y ∷ xs) zero i x h e = absurd (omega arith)
within_front (y ∷ xs) (suc k) zero x h e = e
within_front (y ∷ xs) (suc k) (suc i) x h e = within_front xs k i x (omega arith) e

-- fewer of the first ones are the first ones
pub take_front : {A : Type 0} (xs : List A) (k i : ℕ) → i ≤ k → take i (take k xs) ≡ take i xs
take_front xs k zero h = refl
take_front [] zero (suc i) h = refl
take_front [] (suc k) (suc i) h = refl
take_front (y ∷ xs) zero (suc i) h = absurd (omega arith)
take_front (y ∷ xs) (suc k) (suc i) h = ap (λ ys. y ∷ ys) (take_front xs k i (omega arith))

-- where the step at a place is accepted after those before it, these and it are
pub accepted_more : (s : Spec) (posed : Posed) (statements : List Statement) (steps : List Step) (k : ℕ)
    (step : Step) → slice_get steps k ≡ Some step
    → AreAccepted s posed statements (take k steps) → IsAcceptedStep s posed statements (clauses_of (take k steps)) step
    → AreAccepted s posed statements (take (k + 1) steps)
accepted_more s posed statements steps k step at before here i x e =
    let found = in_front steps (k + 1) i x e in
    let below : i < k + 1 = found.0 in
    let front : take i (take (k + 1) steps) ≡ take i steps = take_front steps (k + 1) i (omega arith) in
    elim (cases_lt i k) [
      | inl less ↦
          let there : slice_get (take k steps) i ≡ Some x = within_front steps k i x less found.1 in
          let same : take i (take k steps) ≡ take i steps = take_front steps k i (omega arith) in
          subst (λ ys. IsAcceptedStep s posed statements (clauses_of ys) x) (same ∙ sym front) (before i x there)
      | inr more ↦
          let last : i ≡ k = omega arith in
          let is : slice_get steps k ≡ Some x = subst (λ n. slice_get steps n ≡ Some x) last found.1 in
          let same : step ≡ x = (let both : Some step ≡ Some x = sym at ∙ is in cc) in
          subst (λ y. IsAcceptedStep s posed statements (clauses_of (take i (take (k + 1) steps))) y) same
          (subst (λ ys. IsAcceptedStep s posed statements (clauses_of ys) step) (sym (front ∙ ap (λ n. take n steps) last)) here)
    ]

-- the clauses with one more show what is shown with one more
pub shown_more : (clauses : List (List Lit)) (clause : List Lit) (old new : Shown) → IsShownBy clauses old
    → ShowsMore old new clause
    → IsShownBy (clauses ++ clause ∷ []) new
shown_more clauses clause old new is more =
    record {
      unit = λ lit. more.unit lit ∙ ap (λ b. b || is_unit lit clause) (is.unit lit) ∙ sym (any_push (is_unit lit) clauses clause);
      empty = more.empty ∙ ap (λ b. b || is_empty clause) is.empty ∙ sym (any_push is_empty clauses clause);
    }

pub judged_more : (s : Spec) (posed : Posed) (statements : List Statement) (steps : List Step) (k : ℕ) (step : Step)
    (lits : List Lit)
    → (replay replay' : List (List Lit)) (shown shown' : Shown) → slice_get steps k ≡ Some step
    → slice_get (clauses_of steps) k ≡ Some lits
    → IsJudged s posed statements steps k replay shown → IsAcceptedStep s posed statements replay step
    → replay' ≡ replay ++ clause_of step ∷ [] → ShowsMore shown shown' lits → IsJudged s posed statements steps
    (k + 1) replay' shown'
judged_more s posed statements steps k step lits replay replay' shown shown' at at_lits judged accepted added more =
    let is_clause : clause_of step ≡ lits =
    (let both : Some (clause_of step) ≡ Some lits = sym (slice_get-map clause_of steps k ∙ ap (option_map clause_of)
    at) ∙ at_lits in cc) in
    let clauses : clauses_of (take (k + 1) steps) ≡ clauses_of (take k steps) ++ clause_of step ∷ [] =
    clauses_more steps k step at in
    record {
      clauses = added ∙ ap (λ cs. cs ++ clause_of step ∷ []) judged.clauses ∙ sym clauses;
      accepted = accepted_more s posed statements steps k step at judged.accepted
          (subst (λ cs. IsAcceptedStep s posed statements cs step) judged.clauses accepted);
      shown_by = subst (λ cs. IsShownBy cs shown') (sym clauses)
          (shown_more (clauses_of (take k steps)) (clause_of step) shown shown' judged.shown_by
          (subst (ShowsMore shown shown') (sym is_clause) more));
      room = more.room ∙ judged.room;
    }

-- nothing is judged yet
pub judged_none : (s : Spec) (posed : Posed) (statements : List Statement) (steps : List Step) (shown : Shown)
    → shown ≡ record { units = replicate (2 * length statements) false; empty = false } → IsJudged s posed statements
    steps 0 [] shown
judged_none s posed statements steps shown begun =
    record {
      clauses = refl;
      accepted = λ place step e. cc;
      shown_by = record {
        unit = λ lit. ap (λ sh. shows_unit sh lit) begun ∙ none (2 * length statements) lit.0;
        empty = ap (λ sh. sh.empty) begun;
      };
      room = ap (λ sh. length sh.units) begun ∙ count (2 * length statements);
    }
  where
    none : (n i : ℕ) → slice_index_or (replicate n false) i false ≡ false
    none zero i = refl
    none (suc n) zero = refl
    none (suc n) (suc i) = none n i

    count : (n : ℕ) → length (replicate n false) ≡ n
    count zero = refl
    count (suc n) = ap suc (count n)

-- all steps are judged
pub judged_all : (s : Spec) (posed : Posed) (statements : List Statement) (steps : List Step) (k : ℕ)
    (replay : List (List Lit)) (shown : Shown)
    → length steps ≤ k → IsJudged s posed statements steps k replay shown → AreAccepted s posed statements steps ×
    IsShownBy (clauses_of steps) shown
judged_all s posed statements steps k replay shown past judged =
    let all : take k steps ≡ steps = whole steps k past in (
      subst (AreAccepted s posed statements) all judged.accepted,
      subst (λ ys. IsShownBy (clauses_of ys) shown) all
          judged.shown_by,
    )
  where
    whole : {A : Type 0} (xs : List A) (k : ℕ) → length xs ≤ k → take k xs ≡ xs
    whole [] zero h = refl
    whole [] (suc k) h = refl
    whole (y ∷ xs) zero h = absurd (omega arith)
    whole (y ∷ xs) (suc k) h = ap (λ ys. y ∷ ys) (whole xs k (omega arith))

-- the step at a place fails, and those before it are accepted
pub first_fault : (s : Spec) (posed : Posed) (statements : List Statement) (steps : List Step) (k : ℕ) (step : Step)
    (replay : List (List Lit)) (shown : Shown) (fault : LogFault)
    → slice_get steps k ≡ Some step → IsJudged s posed statements steps k replay shown → FailsAt s posed statements
    replay k step fault
    → FailsFirst s posed statements steps fault
first_fault s posed statements steps k step replay shown fault at judged fails =
    record {
      place = k;
      step = step;
      is_step = at;
      earlier = judged.accepted;
      fails =
          subst (λ cs. FailsAt s posed statements cs k step fault) judged.clauses fails;
    }

-- a step's hints are few, and its literals have room
pub few_hints_at : (statements : List Statement) (steps : List Step) (k : ℕ) (step : Step) → IsNumbered statements steps
    → slice_get steps k ≡ Some step → HasFewHints step
few_hints_at statements steps k step numbered at =
    subst HasFewHints (get_or_from_slice_get steps k step step at)
    (All-get_or HasFewHints steps k step (slice_get_within steps k step at) numbered.few_hints)
