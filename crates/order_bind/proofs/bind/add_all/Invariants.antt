-- The pairs so far are added, and no others, and the rules and copy functions stay.
use Rattle.std.proofs.Common.{◌≡◌, take}
use Rattle.order_bind.specs.Orders.{AddsAllGiven}
use Rattle.order_bind.proofs.bind.add_all.Given as goal

abbrev pub invariant-loop-pair : goal.invariant-loop-pair
invariant-loop-pair l = record {
  added : AddsAllGiven l.fn.spec.relations l.spec.relations l.rel.0 (take l.pair-index l.pairs);
  rules : l.spec.rules ≡ l.fn.spec.rules;
  copies : l.spec.copies ≡ l.fn.spec.copies;
}
