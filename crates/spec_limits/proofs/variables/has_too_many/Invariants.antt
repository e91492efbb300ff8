-- What is left of the bound is what the relations so far leave of it.
use Rattle.std.proofs.Common.{◌≡◌, ◌+◌, take}
use Rattle.spec_limits.specs.Limits.{order_variables}
use Rattle.spec_limits.proofs.variables.has_too_many.Given as goal

abbrev pub invariant-loop-relation : goal.invariant-loop-relation
invariant-loop-relation l = l.left + order_variables (take l.relation-index l.relations) ≡ 4000000
