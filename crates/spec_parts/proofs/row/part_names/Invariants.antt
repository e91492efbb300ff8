use Rattle.std.proofs.Common.{take}
use Rattle.spec_parts.specs.Steps.{ArePaired, IsNamePart}
use Rattle.spec_parts.proofs.row.part_names.Given as goal

abbrev pub invariant-loop-entity : goal.invariant-loop-entity
invariant-loop-entity l = ArePaired (IsNamePart l.names) (take l.entity-index l.entities) l.list
