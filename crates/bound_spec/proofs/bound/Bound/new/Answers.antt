use Rattle.bound_spec.proofs.Within.{nothing_known}
use Rattle.bound_spec.proofs.bound.Bound.new.Goals as goal

pub invariant_of-result : goal.invariant_of-result
invariant_of-result c = nothing_known c.new.result c.new-2.result c.new.ensures c.new-2.ensures
