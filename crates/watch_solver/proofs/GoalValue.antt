-- What the goal's value tells, where nothing is assumed.
use Rattle.std.proofs.Common.{◌≡◌, ◌<◌, ◌≤◌, ◌∙◌, ℕ, Bool, true, false, not, Option, Some, None, Contains, length, slice_get, refl, sym, ap, subst, arith}
use mathlib.Core.Bool.{beq}
use Rattle.std.proofs.lemmas.List.{nil_from_length}
use Rattle.currency_base.specs.Literals.{is_negative, negation, var_of}
use Rattle.currency_base.specs.declared.lit.Lit.{Lit}
use Rattle.search_trail.specs.Trails.{IsFree, ScopedValues, Trail, assumed, lits_of, values_of}
use Rattle.search_trail.proofs.KnownValues.{as_many_values, is_free, is_value, is_variable}
use Rattle.watch_solver.specs.Underway.{IsGoalFalse, IsGoalTrue, IsGoalWithin, IsNextLit, IsOfGoal}
use Rattle.watch_solver.proofs.LitParts.{other_parts}
use Rattle.watch_solver.proofs.TrueLits.{false_by, true_by}
use Rattle.watch_solver.proofs.UnderGoal.{goal_begun}

-- the goal's value that was read
pub record IsRead (t : Trail) (goal : Option Lit) (g : Lit) (values : ScopedValues) (var : ℕ) : Type 0 where
  pub is_goal : goal ≡ Some g
  pub values_are : values ≡ values_of t
  pub is_of : var ≡ var_of g

pub var_listed : (t : Trail) (goal : Option Lit) (g : Lit) (values : ScopedValues) (var : ℕ)
    → IsRead t goal g values var → IsGoalWithin t.vars goal → var < length values.given
var_listed t goal g values var r within =
    let few : var_of g < t.vars = subst (λ (o : Option Lit). IsGoalWithin t.vars o) r.is_goal within in
    omega (arith, few, r.is_of, as_many_values t, ap (λ (vs : ScopedValues). length vs.given) r.values_are)

told : (t : Trail) (goal : Option Lit) (g : Lit) (values : ScopedValues) (var : ℕ) (value read : Option Bool)
    → IsRead t goal g values var
    → slice_get values.given var ≡ Some read → read ≡ value → slice_get (values_of t).given (var_of g) ≡ Some value
told t goal g values var value read r at is =
    ap (λ (vs : ScopedValues). slice_get vs.given (var_of g)) (sym r.values_are) ∙ ap (slice_get values.given)
    (sym r.is_of) ∙ at ∙ ap Some is

same_if : (a b : Bool) → beq a b ≡ true → a ≡ b
same_if true true e = refl
same_if false false e = refl
same_if true false e = let no : ⊥ = cc in absurd no
same_if false true e = let no : ⊥ = cc in absurd no

other_if : (a b : Bool) → beq a b ≡ false → a ≡ not b
other_if true false e = refl
other_if false true e = refl
other_if true true e = let no : ⊥ = cc in absurd no
other_if false false e = let no : ⊥ = cc in absurd no

-- its value is its sign
pub goal_is_false : (t : Trail) (goal : Option Lit) (g : Lit) (values : ScopedValues) (var : ℕ)
    (value negative : Bool) (read : Option Bool)
    → IsRead t goal g values var → slice_get values.given var ≡ Some read → read ≡ Some value → negative ≡ is_negative g
    → beq value negative ≡ true → IsGoalFalse t goal
goal_is_false t goal g values var value negative read r at is sign test =
    let there : Contains (lits_of t) (negation g) =
    false_by (lits_of t) g value (is_value t (var_of g) (Some value) (told t goal g values var (Some value) read r at
    is)) (same_if value negative test ∙ sign) in
    subst (λ (o : Option Lit). IsGoalFalse t o) (sym r.is_goal) there

-- its value is the other
pub goal_is_true : (t : Trail) (goal : Option Lit) (g : Lit) (values : ScopedValues) (var : ℕ)
    (value negative : Bool) (read : Option Bool)
    → IsRead t goal g values var → slice_get values.given var ≡ Some read → read ≡ Some value → negative ≡ is_negative g
    → beq value negative ≡ false
    → length t.starts ≤ 0 → IsGoalTrue t goal g
goal_is_true t goal g values var value negative read r at is sign test none = record {
  is_goal = r.is_goal;
  ground = nil_from_length t.starts (omega (arith, none));
  is_true = true_by (lits_of t) g value (is_value t (var_of g) (Some value) (told t goal g values var (Some value) read r at is))
      (other_if value negative test ∙ ap not sign);
}

-- it has none
pub goal_is_open : (t : Trail) (goal : Option Lit) (g lit : Lit) (values : ScopedValues) (var : ℕ) (read : Option Bool)
    → IsRead t goal g values var → slice_get values.given var ≡ Some read → read ≡ None → lit ≡ negation g
    → length t.starts ≤ 0 → IsNextLit t goal lit
goal_is_open t goal g lit values var read r at is negated none =
    let free = told t goal g values var None read r at is in
    let same : var_of lit ≡ var_of g = ap var_of negated ∙ (other_parts g).var in
    record {
      within = subst (λ (v : ℕ). v < t.vars) (sym same) (is_variable t (var_of g) None free);
      free = subst (λ (v : ℕ). IsFree t v) (sym same) (is_free t (var_of g) free);
      kept = subst (λ (l : Lit). IsOfGoal (assumed t l) goal) (sym negated)
          (subst (λ (o : Option Lit). IsOfGoal (assumed t (negation g)) o) (sym r.is_goal) (goal_begun t g none));
    }
