use Rattle.std.proofs.Common.{take}
use Rattle.part_laws.specs.Parts.{IsRowPart}
use Rattle.spec_parts.specs.Steps.{ArePaired}
use Rattle.spec_parts.proofs.row.part_rows.Given as goal

abbrev pub invariant-loop-row : goal.invariant-loop-row
invariant-loop-row l = ArePaired (IsRowPart l.table l.entities) (take l.row-index l.rows) l.list
