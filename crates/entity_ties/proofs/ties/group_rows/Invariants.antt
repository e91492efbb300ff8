use Rattle.std.proofs.Common.{◌≡◌, map, take}
use Rattle.entity_ties.specs.Labels.{grouping_of}
use Rattle.entity_ties.proofs.ties.group_rows.Given as goal

abbrev pub invariant-loop-relation : goal.invariant-loop-relation
invariant-loop-relation l = l.groups.items ≡ map grouping_of (take l.relation-index l.relations)
