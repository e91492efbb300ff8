-- The sides of comparisons by number, and their values where the comparisons hold.
use Rattle.std.proofs.Common.{◌≡◌, ◌≢◌, ◌⊎◌, inl, inr, ◌/◌, ◌%◌, ℕ, Bool, true, false, cond, eqb, List, Option, None, Some, option_map, slice_get, refl, ap, subst, ◌∙◌}
use Rattle.std.specs.List.{All}
use Rattle.std.proofs.lemmas.Bool.{false≢true}
use Rattle.std.proofs.lemmas.Bool.Decides.{eqb_tells}
use Rattle.std.proofs.lemmas.Option.{get_or_from_slice_get, none-some, same_Some, slice_get_within}
use Rattle.currency_base.specs.declared.value.Cmp.{Cmp}
use Rattle.currency_base.specs.declared.value.Value.{Value}
use Rattle.query_model.specs.Answers.{TestHolds, is_compared, value_of}
use Rattle.query_model.specs.declared.query.Test.{Test}
use Rattle.query_model.specs.declared.query.TestTerm.{TestTerm}
use Rattle.query_plan.specs.Implied.{side_at}

pub held : (tests : List Test) (values : List Value) (k : ℕ) (t : Test) → All (TestHolds values) tests
    → slice_get tests k ≡ Some t → TestHolds values t
held tests values k t all is = subst (TestHolds values) (get_or_from_slice_get tests k t t is)
    (all k t (slice_get_within tests k t is))

pub side_left : (tests : List Test) (n : ℕ) (t : Test) → slice_get tests (n / 2) ≡ Some t → n % 2 ≡ 0 → side_at tests n ≡ Some t.left
side_left tests n t is even =
    ap (option_map (λ (u : Test). cond (eqb (n % 2) 0) u.left u.right)) is
    ∙ ap (λ k. Some (cond (eqb k 0) t.left t.right)) even

pub side_right : (tests : List Test) (n : ℕ) (t : Test) → slice_get tests (n / 2) ≡ Some t → n % 2 ≢ 0 → side_at tests n ≡ Some t.right
side_right tests n t is odd =
    ap (option_map (λ (u : Test). cond (eqb (n % 2) 0) u.left u.right)) is ∙ by (eqb_tells (n % 2) 0)
  where
    by : ((eqb (n % 2) 0 ≡ true) × (n % 2 ≡ 0)) ⊎ ((eqb (n % 2) 0 ≡ false) × (n % 2 ≢ 0))
        → Some (cond (eqb (n % 2) 0) t.left t.right) ≡ Some t.right
    by (inl is_even) = absurd (odd is_even.1)
    by (inr is_odd) = ap (λ b. Some (cond b t.left t.right)) is_odd.0

-- a side that has a value
abbrev pub Has : List Value → TestTerm → Type 0
Has values s = (x : Value) × (value_of values s ≡ Some x)

both_have : (o p : Option Value) (cmp : Cmp) → is_compared o cmp p ≡ true
    → ((x : Value) × (o ≡ Some x)) × ((y : Value) × (p ≡ Some y))
both_have None p cmp holds = absurd (false≢true holds)
both_have (Some x) None cmp holds = absurd (false≢true holds)
both_have (Some x) (Some y) cmp holds = ((x, refl), (y, refl))

-- where comparisons hold each side has a value
pub side_has : (tests : List Test) (values : List Value) (n : ℕ) (s : TestTerm) → All (TestHolds values) tests
    → side_at tests n ≡ Some s → Has values s
side_has tests values n s all is = by (slice_get tests (n / 2)) refl is
  where
    one : (t : Test) (b : Bool) → TestHolds values t → Has values (cond b t.left t.right)
    one t true holds = (both_have (value_of values t.left) (value_of values t.right) t.cmp holds).0
    one t false holds = (both_have (value_of values t.left) (value_of values t.right) t.cmp holds).1

    by : (o : Option Test) → slice_get tests (n / 2) ≡ o → option_map
        (λ (u : Test). cond (eqb (n % 2) 0) u.left u.right) o ≡ Some s → Has values s
    by None at same = absurd (none-some s same)
    by (Some t) at same = subst (Has values) (same_Some (cond (eqb (n % 2) 0) t.left t.right) s same)
        (one t (eqb (n % 2) 0) (held tests values (n / 2) t all at))
