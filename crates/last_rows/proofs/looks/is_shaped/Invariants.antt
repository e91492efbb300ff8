use Rattle.std.proofs.Common.{◌≡◌, ◌<◌, ℕ, [], get_or, length}
use Rattle.last_rows.specs.Rows.{number_of}
use Rattle.last_rows.proofs.looks.is_shaped.Given as goal

abbrev pub invariant-loop-row : goal.invariant-loop-row
invariant-loop-row l = (row : ℕ) → row < l.row
    → (length (get_or l.list.befores row []) ≡ length l.list.tops.items) × (number_of l.list row < length l.list.tops.items)
