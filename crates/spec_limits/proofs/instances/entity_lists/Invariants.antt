use Rattle.std.proofs.Common.{take}
use Rattle.spec_limits.specs.Left.{AreEntityLists}
use Rattle.spec_limits.proofs.instances.entity_lists.Given as goal

abbrev pub invariant-loop-relation : goal.invariant-loop-relation
invariant-loop-relation l = AreEntityLists (take l.relation-index l.relations) l.lists
