-- Where each variable has a value and unit propagation is at rest, the values are a model.
use Rattle.std.proofs.Common.{◌≡◌, ◌⊎◌, ◌<◌, ◌∙◌, ℕ, Bool, true, false, not, if◌then◌else◌, List, Option, Some, None, All, Contains, slice_get, slice_index_or, refl, sym, ap, subst, inl, inr, arith}
use Rattle.std.proofs.lemmas.List.Elements.{All-contains, All-contains_itself, All-map, All-weaker}
use Rattle.std.proofs.lemmas.Option.{IfSome_then, slice_get-get_or}
use Rattle.currency_base.specs.Literals.{is_negative, negation, var_of}
use Rattle.currency_base.specs.declared.lit.Lit.{Lit}
use Rattle.search_trail.specs.Trails.{AreEntries, Entry, HasNoFree, Trail, lits_of, value_in, values_of, whole_scope}
use Rattle.search_trail.proofs.Scopes.{whole_has}
use Rattle.search_trail.proofs.KnownValues.{as_many_values, is_value}
use Rattle.refutation_log.specs.Steps.{clause_of, clauses_of}
use Rattle.refutation_log.specs.Counted.{IsAtRest, holds}
use Rattle.search_state.specs.States.{IsFit}
use Rattle.refutation_log.specs.declared.step.Step.{Step}
use Rattle.watch_propagate.proofs.KeptLists.{contains_at, stands_at}
use Rattle.watch_propagate.proofs.KeptLits.{lits_consistent}
use Rattle.watch_solver.specs.Decided.{AreTruths, IsModel, IsModelOn, truth_in}
use Rattle.watch_solver.proofs.LitParts.{other_parts, sign_cases}
use Rattle.watch_solver.proofs.TrueLits.{false_by, not_free, true_by}
use Rattle.watch_solver.proofs.UnderGoal.{stands}

-- the value of a variable in the list
value_listed : (t : Trail) (var : ℕ) → var < t.vars → slice_get (values_of t).given var ≡ Some (value_in (lits_of t) var)
value_listed t var h =
    let there = slice_get-get_or (values_of t).given var None (omega (arith, h, as_many_values t)) in
    there ∙ ap Some (sym (is_value t var (slice_index_or (values_of t).given var None) there))

-- a literal that is true is of a variable of the trail
var_within : (t : Trail) (lit : Lit) → AreEntries t → Contains (lits_of t) lit → var_of lit < t.vars
var_within t lit are c =
    let at = stands_at (lits_of t) lit c in
    let entry = stands t at.0 lit at.1 in
    subst (λ (v : ℕ). v < t.vars) entry.is_of
    (All-contains (λ (e : Entry). var_of e.lit < t.vars) t.entries entry.entry are.within
    (contains_at t.entries at.0 entry.entry entry.is_entry))

-- the truth of a literal by sign and truth of its variable
unfoldable holds_by : Bool → Bool → Bool
holds_by negative truth = if negative then not truth else truth

by_parts : (truth : ℕ → Bool) (lit : Lit) → holds truth lit ≡ holds_by (is_negative lit) (truth (var_of lit))
unfolding holds_by
by_parts truth lit = refl

by_value : (negative truth : Bool) → truth ≡ not negative → holds_by negative truth ≡ true
unfolding holds_by
by_value true truth is = ap not is
by_value false truth is = is

by_other : (negative truth : Bool) → holds_by (not negative) truth ≡ true → holds_by negative truth ≡ false
unfolding holds_by
by_other true truth is = ap not is
by_other false true is = sym is
by_other false false is = refl

-- a literal that is true holds by the truths
holds_where_true : (t : Trail) (truths : List Bool) (lit : Lit) → AreEntries t → AreTruths (values_of t).given truths
    → Contains (lits_of t) lit
    → holds (truth_in truths) lit ≡ true
holds_where_true t truths lit are of c = go (value_in (lits_of t) (var_of lit)) refl
  where
    listed : slice_get (values_of t).given (var_of lit) ≡ Some (value_in (lits_of t) (var_of lit))
    listed = value_listed t (var_of lit) (var_within t lit are c)

    signs : (b : Bool) → value_in (lits_of t) (var_of lit) ≡ Some b → (b ≡ is_negative lit) ⊎
        (b ≡ not (is_negative lit)) → holds (truth_in truths) lit ≡ true
    signs b is (inl sign) = absurd (lits_consistent t are lit c (false_by (lits_of t) lit b is sign))
    signs b is (inr other) =
        by_parts (truth_in truths) lit
        ∙ by_value (is_negative lit) (truth_in truths (var_of lit)) (of.same (var_of lit) b (listed ∙ ap Some is) ∙ other)

    go : (o : Option Bool) → value_in (lits_of t) (var_of lit) ≡ o → holds (truth_in truths) lit ≡ true
    go (Some b) is = signs b is (sign_cases lit b)
    go None is =
        let at = stands_at (lits_of t) lit c in
        absurd (not_free (lits_of t) at.0 lit at.1 is)

false_where_true : (truth : ℕ → Bool) (lit : Lit) → holds truth (negation lit) ≡ true → holds truth lit ≡ false
false_where_true truth lit is =
    let parts = other_parts lit in
    let other : holds_by (not (is_negative lit)) (truth (var_of lit)) ≡ true =
    sym (ap (λ (n : Bool). holds_by n (truth (var_of lit))) parts.sign)
    ∙ sym (ap (λ (v : ℕ). holds_by (is_negative (negation lit)) (truth v)) parts.var)
    ∙ sym (by_parts truth (negation lit)) ∙ is in
    by_parts truth lit ∙ by_other (is_negative lit) (truth (var_of lit)) other

-- a clause at rest has a literal that holds
true_lit : (t : Trail) (truths : List Bool) (clause : List Lit) → AreEntries t → AreTruths (values_of t).given truths
    → t.scope ≡ whole_scope t.vars → HasNoFree (values_of t)
    → All (λ lit. var_of lit < t.vars) clause → IsAtRest (lits_of t) clause → (lit : Lit) × Contains clause lit ×
    (holds (truth_in truths) lit ≡ true)
true_lit t truths clause are of whole no_free within (inl h) = (h.lit, h.is_in, holds_where_true t truths h.lit are of h.is_true)
true_lit t truths clause are of whole no_free within (inr h) = absurd (go (value_in (lits_of t) (var_of h.first)) refl)
  where
    signs : (b : Bool) → value_in (lits_of t) (var_of h.first) ≡ Some b → (b ≡ is_negative h.first) ⊎
        (b ≡ not (is_negative h.first)) → ⊥
    signs b is (inl sign) = h.first_open.not_false (false_by (lits_of t) h.first b is sign)
    signs b is (inr other) = h.first_open.not_true (true_by (lits_of t) h.first b is other)

    go : (o : Option Bool) → value_in (lits_of t) (var_of h.first) ≡ o → ⊥
    go (Some b) is = signs b is (sign_cases h.first b)
    go None is =
        let below : var_of h.first < t.vars = All-contains (λ (l : Lit). var_of l < t.vars) clause h.first within h.first_in in
        no_free (var_of h.first)
        (record {
          is_in = subst (λ (scope : List ℕ). Contains scope (var_of h.first)) (sym whole)
              (whole_has t.vars (var_of h.first) below);
          free = value_listed t (var_of h.first) below ∙ ap Some is;
        })

pub is_model : (steps : List Step) (goal : Option Lit) (t : Trail) (truths : List Bool) → AreEntries t
    → All (λ step. IsFit t.vars (clause_of step)) steps → t.scope ≡ whole_scope t.vars → IsModelOn steps goal t
    → AreTruths (values_of t).given truths → IsModel t.vars steps goal truths
is_model steps goal t truths are fit whole on of = record {
  whole = of.whole ∙ as_many_values t;
  clauses_true = All-weaker (Contains (clauses_of steps)) (λ (clause : List Lit). (lit : Lit) × Contains clause lit
      × (holds (truth_in truths) lit ≡ true)) each (clauses_of steps) (All-contains_itself (clauses_of steps));
  goal_false = IfSome_then goal on.goal_false
      (λ g c. false_where_true (truth_in truths) g (holds_where_true t truths (negation g) are of c));
}
  where
    each : (clause : List Lit) → Contains (clauses_of steps) clause → (lit : Lit) × Contains clause lit ×
        (holds (truth_in truths) lit ≡ true)
    each clause c =
        let here = All-contains (λ (c : List Lit). IsFit t.vars c) (clauses_of steps) clause
        (All-map (λ (c : List Lit). IsFit t.vars c) clause_of steps fit) c in
        true_lit t truths clause are of whole on.no_free here.within
        (All-contains (IsAtRest (lits_of t)) (clauses_of steps) clause on.at_rest c)
