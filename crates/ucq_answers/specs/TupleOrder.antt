-- The order of values and of tuples is total, and equal for equal values alone.
use Rattle.std.specs.Prelude.{◌≡◌}
use Rattle.std.specs.Cmp.Lexicographic.{slice_cmp}
use Rattle.std.specs.Cmp.{IsTotalOrder}
use Rattle.std.specs.Ordering.{ordering_reverse}
use Rattle.std.proofs.lemmas.Cmp.{lists_total}
use Rattle.std.proofs.lemmas.Map.Lookups.{CmpEqualImpliesEq}
use Rattle.currency_base.specs.Values.{value_cmp}
use Rattle.currency_base.specs.declared.value.Value.{Value}
use Rattle.query_plan.specs.ValueOrder as order

pub exact_values : CmpEqualImpliesEq value_cmp
exact_values = order.exact_values

pub value_antisymm : (x y : Value) → value_cmp x y ≡ ordering_reverse (value_cmp y x)
value_antisymm = order.value_antisymm

pub value_total : IsTotalOrder value_cmp
value_total = order.value_total

pub tuple_total : IsTotalOrder (slice_cmp value_cmp)
tuple_total = lists_total value_total
