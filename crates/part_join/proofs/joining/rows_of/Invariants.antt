use Rattle.std.proofs.Common.{◌≡◌, map, take}
use Rattle.part_laws.specs.Parts.{whole_row}
use Rattle.part_join.proofs.joining.rows_of.Given as goal

abbrev pub invariant-loop-row : goal.invariant-loop-row
invariant-loop-row l = l.all ≡ map (whole_row l.rows) (take l.row-index l.list)
