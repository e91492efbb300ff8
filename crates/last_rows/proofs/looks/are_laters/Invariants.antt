use Rattle.std.proofs.Common.{◌<◌, ◌≤◌, ℕ}
use Rattle.last_rows.specs.Rows.{later_of}
use Rattle.last_rows.proofs.looks.are_laters.Given as goal

abbrev pub invariant-loop-row : goal.invariant-loop-row
invariant-loop-row l = (row : ℕ) → l.list.kept ≤ row → row < l.row → later_of l.list row < row
