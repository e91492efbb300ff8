-- What follows is true: a clause where the earlier ones are, and the clauses of a log where its axioms are.
use Rattle.std.proofs.Common.{◌≡◌, ◌⊎◌, ℕ, zero, suc, Bool, true, false, List, [], ◌∷◌, ◌++◌, All, Contains, length, get_or, refl, sym, subst, inl, inr, ⊎_elim, arith, true≢false}
use Rattle.std.proofs.lemmas.List.{map-append, take_at}
use Rattle.std.proofs.lemmas.List.Elements.{All-nil, All-cons, All-head, All-tail, All-push, All-take, All-map, Contains-push, Contains-push_cases, All-contains}
use Rattle.currency_base.specs.Literals.{negation}
use Rattle.currency_base.specs.declared.lit.Lit.{Lit}
use Rattle.refutation_log.specs.Steps.{clause_of, clauses_of}
use Rattle.refutation_log.specs.Follows.{IsOnlyOpen, Falsifies, FollowsFrom, AreEarlier, clause_at, clauses_at}
use Rattle.refutation_log.specs.Counted.{holds}
use Rattle.refutation_log.specs.declared.step.Step.{Step}
use Rattle.refutation_log.specs.declared.step.Step.TheVariants.{Axiom, OnDemand, Learn}
use Rattle.log_laws.specs.Truths.{IsTrueBy, IsGrounded, AreGrounded}
use Rattle.log_laws.proofs.Fronts.{EachAfter, each_after}
use Rattle.log_laws.proofs.Signs.{holds_once}

-- a truth of literals: each is true or is not, and none is beside its negation
pub record IsTruth (T : Lit → Type 0) : Type 0 where
  pub decided : (lit : Lit) → T lit ⊎ (T lit → ⊥)
  pub consistent : (lit : Lit) → T lit → T (negation lit) → ⊥

-- so is what holds, where each variable has a truth
pub holds_is_truth : (truth : ℕ → Bool) → IsTruth (λ lit. holds truth lit ≡ true)
holds_is_truth truth = record { decided = λ lit. either (holds truth lit); consistent = holds_once truth }
  where
    either : (b : Bool) → (b ≡ true) ⊎ (b ≡ true → ⊥)
    either true = inl refl
    either false = inr (λ e. true≢false (sym e))

-- none of the literals is true
abbrev NoneTrue : (Lit → Type 0) → List Lit → Type 0
NoneTrue T lits = (lit : Lit) → Contains lits lit → T lit → ⊥

-- ---- one clause

in_cons : (first : Lit) (rest : List Lit) (lit : Lit) → Contains (first ∷ rest) lit → (first ≡ lit) ⊎ Contains rest lit
in_cons first rest lit (zero, within, e) = inl e
in_cons first rest lit (suc k, within, e) = inr (k, omega arith, e)

-- a literal of a clause is true, or none is
true_or_none : (T : Lit → Type 0) → ((lit : Lit) → T lit ⊎ (T lit → ⊥)) → (clause : List Lit)
    → IsTrueBy T clause ⊎ NoneTrue T clause
true_or_none T decided [] = inr (λ lit at t. absurd (omega (arith, at.1)))
true_or_none T decided (first ∷ rest) = ⊎_elim
    (λ (t : T first). inl (first, (0, omega arith, refl), t))
    (λ (untrue : T first → ⊥). ⊎_elim
    (λ (h : IsTrueBy T rest). inl (h.0, (suc h.1.0, (let lt = h.1.1 in omega arith), h.1.2), h.2))
    (λ (none : NoneTrue T rest). inr (λ lit at t. ⊎_elim
    (λ (here : first ≡ lit). untrue (subst T (sym here) t))
    (λ (there : Contains rest lit). none lit there t)
    (in_cons first rest lit at)))
    (true_or_none T decided rest))
    (decided first)

module _ (T : Lit → Type 0) (truth : IsTruth T) where
  abbrev AreTrue : List (List Lit) → Type 0
  AreTrue clauses = All (IsTrueBy T) clauses

  -- the only literal that is open in a true clause is true, so that its negation is not
  one_more : (falses clause : List Lit) (lit : Lit) → NoneTrue T falses → IsTrueBy T clause → IsOnlyOpen falses clause lit
      → NoneTrue T (falses ++ negation lit ∷ [])
  one_more falses clause lit none is only other at t = ⊎_elim
      (λ (before : Contains falses other). none other before t)
      (λ (added : negation lit ≡ other). ⊎_elim
      (λ (holds : T lit). truth.consistent lit holds (subst T (sym added) t))
      (λ (fails : T lit → ⊥). none is.0 (only.others is.0 is.1 (λ e. fails (subst T e is.2))) is.2)
      (truth.decided lit))
      (Contains-push_cases falses (negation lit) other at)

  -- none of what true clauses falsify is true
  falsified_none : (falses : List Lit) (clauses : List (List Lit)) (all : List Lit) → NoneTrue T falses → AreTrue clauses
      → Falsifies falses clauses all → NoneTrue T all
  falsified_none falses [] all none are e = subst (NoneTrue T) e none
  falsified_none falses (clause ∷ clauses) all none are (inl passed) =
      falsified_none falses clauses all none (All-tail (IsTrueBy T) clause clauses are) passed.1
  falsified_none falses (clause ∷ clauses) all none are (inr (lit, only, more)) =
      falsified_none (falses ++ negation lit ∷ []) clauses all
      (one_more falses clause lit none (All-head (IsTrueBy T) clause clauses are) only)
      (All-tail (IsTrueBy T) clause clauses are) more

  hints_true : (earlier : List (List Lit)) (hints : List ℕ) → AreEarlier earlier hints → AreTrue earlier
      → AreTrue (clauses_at earlier hints)
  hints_true earlier hints known are =
      All-map (IsTrueBy T) (clause_at earlier) hints (λ k d lt. are (get_or hints k d) [] (known k d lt))

  -- a clause that follows from true clauses is true
  pub follows_true : (earlier : List (List Lit)) (clause : List Lit) (hints : List ℕ) → FollowsFrom earlier clause hints
      → All (IsTrueBy T) earlier → IsTrueBy T clause
  follows_true earlier clause hints from are = ⊎_elim
      (λ (is : IsTrueBy T clause). is)
      (λ (none : NoneTrue T clause).
      let f = from.follows in
      let used = subst AreTrue f.hints_are (hints_true earlier hints from.known are) in
      let front = subst AreTrue (take_at f.front (f.last ∷ []) (length f.front) refl)
      (All-take (IsTrueBy T) (length f.front) (f.front ++ f.last ∷ []) used) in
      let last = All-contains (IsTrueBy T) (f.front ++ f.last ∷ []) f.last used (Contains-push f.front f.last) in
      absurd (falsified_none clause f.front f.falses none front f.falsified last.0 (f.conflict last.0 last.1) last.2))
      (true_or_none T truth.decided clause)

  -- ---- a log

  abbrev IsGroundedAfter : List Step → Step → Type 0
  IsGroundedAfter before step = IsGrounded T (clauses_of before) step

  grounded_true : (earlier : List (List Lit)) (step : Step) → AreTrue earlier → IsGrounded T earlier step
      → IsTrueBy T (clause_of step)
  grounded_true earlier (Axiom label lits) are is = is
  grounded_true earlier (OnDemand label lits) are is = is
  grounded_true earlier (Learn lits hints counted) are is = follows_true earlier lits hints is are

  later_true : (front rest : List Step) → AreTrue (clauses_of front) → EachAfter IsGroundedAfter front rest
      → AreTrue (clauses_of rest)
  later_true front [] are each = All-nil (IsTrueBy T)
  later_true front (step ∷ rest) are each =
      let is = grounded_true (clauses_of front) step are each.0 in
      let more : AreTrue (clauses_of (front ++ step ∷ [])) =
      subst AreTrue (sym (map-append clause_of front (step ∷ [])))
      (All-push (IsTrueBy T) (clauses_of front) (clause_of step) are is) in
      All-cons (IsTrueBy T) (clause_of step) (clauses_of rest) is (later_true (front ++ step ∷ []) rest more each.1)

  -- the clauses of a log are true, where each step is grounded after those before it
  pub grounded_all_true : (steps : List Step) → AreGrounded T steps → All (IsTrueBy T) (clauses_of steps)
  grounded_all_true steps are = later_true [] steps (All-nil (IsTrueBy T)) (each_after IsGroundedAfter [] steps are)
