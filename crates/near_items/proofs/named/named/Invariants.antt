use Rattle.std.proofs.Common.{◌≡◌, length}
use Rattle.near_items.proofs.named.named.Given as goal

abbrev pub invariant-loop-item : goal.invariant-loop-item
invariant-loop-item l = length l.marks.items ≡ l.item-index
