use Rattle.std.proofs.Common.{◌≡◌, ◌++◌, drop}
use Rattle.currency_base.proofs.tuple.ItemList+Value.duplicate.Given as goal

abbrev pub invariant-loop-value : goal.invariant-loop-value
invariant-loop-value l = l.copy ++ drop l.value-index l.value-items ≡ l.self
