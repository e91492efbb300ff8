use Rattle.std.proofs.Common.{◌≡◌, length, take}
use Rattle.entity_ties.proofs.Naming.{AreNamed}
use Rattle.entity_ties.proofs.order.in_order.Given as goal

abbrev pub invariant-loop-label : goal.invariant-loop-label
invariant-loop-label l = record {
  room : length l.names.items ≡ length l.labels;
  named : AreNamed (take l.label-index l.labels) l.names.items l.ordered.items l.count;
}
