use Rattle.std.proofs.Common.{◌≡◌, map, take}
use Rattle.order_squares.specs.Entities.{grouping_of}
use Rattle.order_squares.proofs.groups.lists_of.Given as goal

abbrev pub invariant-loop-relation : goal.invariant-loop-relation
invariant-loop-relation l = l.all.items ≡ map grouping_of (take l.relation-index l.relations)
