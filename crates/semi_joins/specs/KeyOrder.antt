-- The order of keys is total.
use Rattle.std.specs.Cmp.Lexicographic.{options_total, slice_cmp}
use Rattle.std.specs.Cmp.{IsTotalOrder}
use Rattle.std.specs.Option.{option_cmp}
use Rattle.std.proofs.lemmas.Cmp.{lists_total}
use Rattle.currency_base.specs.Values.{value_cmp}
use Rattle.query_plan.specs.ValueOrder.{value_total}

pub key_total : IsTotalOrder (slice_cmp (option_cmp value_cmp))
key_total = lists_total (options_total value_total)
