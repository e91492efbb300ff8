use Rattle.std.proofs.Common.{take}
use Rattle.order_search.specs.Moved.{IsWithout}
use Rattle.order_search.proofs.tying.without.Given as goal

abbrev pub invariant-loop-other : goal.invariant-loop-other
invariant-loop-other l = IsWithout l.item (take l.other-index l.list) l.kept
