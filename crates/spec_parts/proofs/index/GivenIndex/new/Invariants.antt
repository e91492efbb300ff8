use Rattle.std.proofs.Common.{take}
use Rattle.spec_parts.specs.Index.{IsIndexed}
use Rattle.spec_parts.specs.Steps.{ArePaired}
use Rattle.spec_parts.proofs.index.GivenIndex.new.Given as goal

abbrev pub invariant-loop-relation : goal.invariant-loop-relation
invariant-loop-relation l = ArePaired IsIndexed (take l.relation-index l.spec.relations) l.lists
