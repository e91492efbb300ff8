use Rattle.std.proofs.Common.{◌≡◌, ◌+◌, take}
use Rattle.std.specs.List.{sum_by}
use Rattle.spec_limits.specs.Instances.{copy_instances}
use Rattle.spec_limits.proofs.copies.left_by_copies.Given as goal

abbrev pub invariant-loop-copy : goal.invariant-loop-copy
invariant-loop-copy l = l.left + sum_by (copy_instances l.spec.relations) (take l.copy-index l.spec.copies) ≡ l.fn.left
