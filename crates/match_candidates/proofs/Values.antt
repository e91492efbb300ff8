-- When a comparison for equality holds.
use Rattle.std.proofs.Common.{◌≡◌, true, refl, ap, Option, None, Some}
use Rattle.std.specs.Ordering.{ordering_reverse}
use Rattle.std.specs.declared.cmp.Ordering.{Ordering}
use Rattle.std.specs.declared.cmp.Ordering.TheVariants.{Less, Equal, Greater}
use Rattle.std.proofs.lemmas.Bool.{false≢true}
use Rattle.currency_base.specs.Values.{holds_at, value_cmp, value_test}
use Rattle.currency_base.specs.declared.value.Cmp.TheVariants.{Eq}
use Rattle.currency_base.specs.declared.value.Value.{Value}
use Rattle.query_model.specs.Answers.{is_compared}
use Rattle.ucq_answers.specs.TupleOrder.{exact_values, value_antisymm}

reversed_equal : (o : Ordering) → o ≡ ordering_reverse o → o ≡ Equal
reversed_equal Less is = cc
reversed_equal Equal is = refl
reversed_equal Greater is = cc

-- a value stands to itself as an equal one
pub value_same : (v : Value) → value_cmp v v ≡ Equal
value_same v = reversed_equal (value_cmp v v) (value_antisymm v v)

pub same_test : (v : Value) → value_test Eq v v ≡ true
same_test v = ap (holds_at Eq) (value_same v)

pub tested_same : (a b : Value) → value_test Eq a b ≡ true → a ≡ b
tested_same a b is = exact_values a b (by (value_cmp a b) is)
  where
    by : (o : Ordering) → holds_at Eq o ≡ true → o ≡ Equal
    by Less holds = absurd (false≢true holds)
    by Equal holds = refl
    by Greater holds = absurd (false≢true holds)

-- what equals a value is it
pub compared_is : (o : Option Value) (v : Value) → is_compared o Eq (Some v) ≡ true → o ≡ Some v
compared_is None v holds = absurd (false≢true holds)
compared_is (Some y) v holds = ap Some (tested_same y v holds)

pub is_itself : (o : Option Value) (v : Value) → o ≡ Some v → is_compared o Eq (Some v) ≡ true
is_itself o v is = rw is (same_test v)
