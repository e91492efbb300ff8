use Rattle.std.proofs.Common.{◌≡◌, ◌+◌, take}
use Rattle.std.specs.List.{sum_by}
use Rattle.spec_limits.specs.Instances.{order_instances}
use Rattle.spec_limits.proofs.instances.left_by_orders.Given as goal

abbrev pub invariant-loop-rel : goal.invariant-loop-rel
invariant-loop-rel l = l.left + sum_by order_instances (take l.rel l.spec.relations) ≡ l.fn.left
