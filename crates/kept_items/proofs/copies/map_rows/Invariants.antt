use Rattle.std.proofs.Common.{◌≡◌, ◌+◌}
use Rattle.kept_items.specs.Steps.{mapped_count, marked_rows}
use Rattle.kept_items.proofs.copies.map_rows.Given as goal

abbrev pub invariant-loop-row : goal.invariant-loop-row
invariant-loop-row l = record {
  next : l.at ≡ l.initial.at + mapped_count l.copy l.row;
  kept : l.kept ≡ marked_rows l.marks l.initial.at l.copy l.row;
}
