use Rattle.std.proofs.Common.{◌≡◌, map, take}
use Rattle.entity_ground.specs.Parts.{grouping_of}
use Rattle.entity_ground.proofs.relations.entity_lists_of.Given as goal

abbrev pub invariant-loop-relation : goal.invariant-loop-relation
invariant-loop-relation l = l.all.items ≡ map grouping_of (take l.relation-index l.relations)
