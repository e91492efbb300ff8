-- What follows from comparisons: how their sides stand to each other, and which variables have which values.
use Rattle.std.specs.Prelude.{◌≡◌, ◌/◌, ◌%◌, ℕ, Bool, true, cond, nat_eq, List, All, Option, Some, option_and_then, option_map, slice_get}
use Rattle.currency_base.specs.declared.value.Cmp.{Cmp}
use Rattle.currency_base.specs.declared.value.Cmp.TheVariants.{Le, Lt, Ne}
use Rattle.currency_base.specs.declared.value.Value.{Value}
use Rattle.query_model.specs.Answers.{TestHolds, is_compared, value_of}
use Rattle.query_model.specs.declared.query.Test.{Test}
use Rattle.query_model.specs.declared.query.TestTerm.{TestTerm}
use Rattle.query_plan.specs.declared.standing.Standing.{Standing}

-- the comparisons of a disjunct
abbrev pub Comparisons : Type 0
Comparisons = List Test

-- the sides of comparisons go by number: that on the left of the k-th has the number 2 k, that on its right 2 k + 1
abbrev pub side_at : List Test → ℕ → Option TestTerm
side_at tests n = option_map (λ t. cond (nat_eq (n % 2) 0) t.left t.right) (slice_get tests (n / 2))

-- the value of a side, if it has one
abbrev pub side_value : List Test → List Value → ℕ → Option Value
side_value tests values n = option_and_then (value_of values) (side_at tests n)

-- at most, or below
abbrev pub cmp_of : Bool → Cmp
cmp_of is_below = cond is_below Lt Le

-- wherever the comparisons hold one side stands so to another
abbrev pub Follows : List Test → Standing → Type 0
Follows tests s = (values : List Value) → All (TestHolds values) tests →
    is_compared (side_value tests values s.low) (cmp_of s.is_below) (side_value tests values s.high) ≡ true

-- wherever they hold two sides have one value
abbrev pub AreEqual : List Test → ℕ → ℕ → Type 0
AreEqual tests a b = (values : List Value) → All (TestHolds values) tests → side_value tests values a ≡ side_value tests values b

-- wherever they hold two sides have two values
abbrev pub IsUnlike : List Test → ℕ → ℕ → Type 0
IsUnlike tests a b = (values : List Value) → All (TestHolds values) tests →
    is_compared (side_value tests values a) Ne (side_value tests values b) ≡ true

-- they hold nowhere
abbrev pub AreContrary : List Test → Type 0
AreContrary tests = (values : List Value) → All (TestHolds values) tests → ⊥

-- a side of a comparison, and a variable
pub record Equated : Type 0 where
  pub side : TestTerm
  pub var : ℕ

-- wherever they hold the variable has the side's value
abbrev pub IsImplied : List Test → Equated → Type 0
IsImplied tests e = (values : List Value) (x : Value) → All (TestHolds values) tests → value_of values e.side ≡ Some x
    → slice_get values e.var ≡ Some x

-- wherever they hold the value of a variable is that of another
abbrev pub IsLed : List Test → ℕ → ℕ → Type 0
IsLed tests var led = (values : List Value) (x : Value) → All (TestHolds values) tests → slice_get values var ≡ Some x
    → slice_get values led ≡ Some x
