use Rattle.std.proofs.Common.{◌≡◌, [], replicate}
use Rattle.order_search.proofs.parting.no_members.Given as goal

abbrev pub invariant-loop-part : goal.invariant-loop-part
invariant-loop-part l = l.members ≡ replicate l._part []
