-- The relations so far are grouped.
use Rattle.std.proofs.Common.{◌≡◌, map, take}
use Rattle.forced_values.specs.Values.{grouping_of}
use Rattle.forced_values.proofs.groups.group_rows.Given as goal

abbrev pub invariant-loop-relation : goal.invariant-loop-relation
invariant-loop-relation l = l.groups.items ≡ map grouping_of (take l.relation-index l.relations)
