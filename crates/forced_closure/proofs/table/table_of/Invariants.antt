use Rattle.std.proofs.Common.{take}
use Rattle.forced_closure.specs.Kept.{IsTable}
use Rattle.forced_closure.proofs.table.table_of.Given as goal

abbrev pub invariant-loop-cell : goal.invariant-loop-cell
invariant-loop-cell l = IsTable l.cells (take l.cell-index l.derived) l.table.items
