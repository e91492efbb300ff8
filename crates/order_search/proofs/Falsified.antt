-- Truths of all statements: what they make of literals; a clause that is false under truths that make the others true
-- is new; and a log whose clauses are true is open.
use Rattle.std.proofs.Common.{◌≡◌, ◌∙◌, ◌<◌, ℕ, Bool, true, false, not, if◌then◌else◌, List, [], All, Contains, map, inl, refl, sym, subst, arith}
use Rattle.std.specs.List.{range_with_len}
use Rattle.std.proofs.lemmas.Bool.{false≢true}
use Rattle.std.proofs.lemmas.List.Elements.{All-contains, All-map}
use Rattle.currency_base.specs.Literals.{is_negative, literal, negation, var_of}
use Rattle.currency_base.specs.declared.lit.Lit.{Lit}
use Rattle.refutation_log.specs.Counted.{HasTrue, IsAtRest, IsConsistent, IsFresh, IsNew, IsOpenLog, IsUnimplied, holds}
use Rattle.refutation_log.specs.Steps.{clause_of, clauses_of}
use Rattle.refutation_log.specs.declared.step.Label.{Label}
use Rattle.refutation_log.specs.declared.step.Step.{Step}
use Rattle.refutation_log.specs.declared.step.Step.TheVariants.{OnDemand}
use Rattle.order_literals.proofs.Items.{IsIn, contained, from_map, in_contained, in_map, range_in}
use Rattle.order_literals.proofs.Sayings.{lit_is, literal_sign, literal_var, negation_sign, negation_var}
use Rattle.order_clauses.proofs.Saying.{all_of}
use Rattle.search_state.specs.States.{IsFit}
use Rattle.watch_solver.specs.Decided.{truth_in}
use Rattle.order_search.specs.Searches.{AreClausesTrue}

-- ---- a literal and its negation

holds_by : (truth : ℕ → Bool) (lit : Lit) (var : ℕ) (negative : Bool) → var_of lit ≡ var → is_negative lit ≡ negative
    → holds truth lit ≡ (if negative then not (truth var) else truth var)
holds_by truth lit var negative v n = rw (v, n) refl

one_of_two : (negative truth : Bool) → (if negative then not truth else truth) ≡ false →
    (if not negative then not truth else truth) ≡ true
one_of_two true true e = refl
one_of_two true false e = cc
one_of_two false true e = cc
one_of_two false false e = refl

-- the negation of what is false is true
pub negation_true : (truth : ℕ → Bool) (lit : Lit) → holds truth lit ≡ false → holds truth (negation lit) ≡ true
negation_true truth lit fails =
    holds_by truth (negation lit) (var_of lit) (not (is_negative lit)) (negation_var lit) (negation_sign lit)
    ∙ one_of_two (is_negative lit) (truth (var_of lit))
    (sym (holds_by truth lit (var_of lit) (is_negative lit) refl refl) ∙ fails)

-- ---- new steps

module _ (truth : ℕ → Bool) (earlier : List (List Lit)) (lits : List Lit)
    (earlier_true : All (λ c. (lit : Lit) × Contains c lit × (holds truth lit ≡ true)) earlier)
    (all_false : (lit : Lit) → Contains lits lit → holds truth lit ≡ false) (some : Lit) (is_in : Contains lits some) where
  unimplied : IsUnimplied earlier lits
  unimplied = record { truth = truth; earlier_true = earlier_true; clause_false = all_false }

  fresh : IsFresh earlier lits
  fresh = record {
    not_empty = λ none. let no = subst (λ (xs : List Lit). Contains xs some) none is_in in in_contained [] some no;
    no_opposites = λ lit here there.
        absurd (false≢true (sym (all_false (negation lit) there) ∙ negation_true truth lit (all_false lit here)));
    no_subset = λ c at inside.
        let one = All-contains (λ c. (lit : Lit) × Contains c lit × (holds truth lit ≡ true)) earlier c earlier_true at in
        absurd (false≢true (sym (all_false one.0 (inside one.0 one.1)) ∙ one.2));
  }

  pub new_demand : (label : Label) → IsNew earlier (OnDemand label lits)
  new_demand label = (unimplied, fresh)

-- ---- open logs

signs : (b : Bool) → (if not b then not b else b) ≡ true
signs true = refl
signs false = refl

sign_is : (negative b : Bool) → (if negative then not b else b) ≡ true → not b ≡ negative
sign_is true true e = cc
sign_is true false e = refl
sign_is false true e = refl
sign_is false false e = cc

module _ (truth : ℕ → Bool) (n : ℕ) where
  -- the literals of so many variables that hold
  abbrev true_lits : List Lit
  true_lits = map (λ var. literal var (not (truth var))) (range_with_len 0 n)

  made_holds : (var : ℕ) → holds truth (literal var (not (truth var))) ≡ true
  made_holds var =
      holds_by truth (literal var (not (truth var))) var (not (truth var)) (literal_var var (not (truth var)))
      (literal_sign var (not (truth var)))
      ∙ signs (truth var)

  all_hold : (lit : Lit) → Contains true_lits lit → holds truth lit ≡ true
  all_hold lit at =
      let from = from_map (λ (var : ℕ). literal var (not (truth var))) (range_with_len 0 n) lit (in_contained true_lits lit at) in
      subst (λ (x : Lit). holds truth x ≡ true) from.2 (made_holds from.0)

  stands : (lit : Lit) → var_of lit < n → holds truth lit ≡ true → Contains true_lits lit
  stands lit below is =
      let var = var_of lit in
      let sign : not (truth var) ≡ is_negative lit =
      sign_is (is_negative lit) (truth var) (sym (holds_by truth lit var (is_negative lit) refl refl) ∙ is) in
      let same : literal var (not (truth var)) ≡ lit =
      lit_is (literal var (not (truth var))) lit (literal_var var (not (truth var)))
      (literal_sign var (not (truth var)) ∙ sign) in
      let there =
      in_map (λ (v : ℕ). literal v (not (truth v))) (range_with_len 0 n) var
      (range_in 0 n var (omega arith) (omega (arith, below))) in
      contained true_lits lit (subst (λ (x : Lit). IsIn true_lits x) same there)

  no_opposites : IsConsistent true_lits
  no_opposites lit here there =
      let yes_here = all_hold lit here in
      let yes_there = all_hold (negation lit) there in
      absurd (never (is_negative lit) (truth (var_of lit))
      (sym (holds_by truth lit (var_of lit) (is_negative lit) refl refl) ∙ yes_here)
      (sym (holds_by truth (negation lit) (var_of lit) (not (is_negative lit)) (negation_var lit)
      (negation_sign lit)) ∙ yes_there))
    where
      never : (negative b : Bool) → (if negative then not b else b) ≡ true → (if not negative then not b else b) ≡ true → ⊥
      never true true e f = cc
      never true false e f = cc
      never false true e f = cc
      never false false e f = cc

-- where each clause has a literal that holds, unit propagation over them is at rest under the literals that hold
pub open_where : (truths : List Bool) (steps : List Step) (n : ℕ) → All (λ step. IsFit n (clause_of step)) steps
    → AreClausesTrue truths steps → IsOpenLog steps
open_where truths steps n fit all = record {
  truths = true_lits (truth_in truths) n;
  consistent = no_opposites (truth_in truths) n;
  at_rest = all_of (IsAtRest (true_lits (truth_in truths) n)) (clauses_of steps) (λ clause at.
      let one = All-contains (λ c. (lit : Lit) × Contains c lit × (holds (truth_in truths) lit ≡ true))
      (clauses_of steps) clause all at in
      let its : IsFit n clause = All-contains (IsFit n) (clauses_of steps) clause (All-map (IsFit n) clause_of steps fit) at in
      let below : var_of one.0 < n = All-contains (λ (lit : Lit). var_of lit < n) clause one.0 its.within one.1 in
      let r : HasTrue (true_lits (truth_in truths) n) clause = record {
        lit = one.0;
        is_in = one.1;
        is_true =
            stands (truth_in truths) n one.0 below one.2;
      } in
      inl r);
}
