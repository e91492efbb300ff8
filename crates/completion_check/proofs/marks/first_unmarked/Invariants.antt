use Rattle.std.proofs.Common.{◌≡◌, ◌<◌, ◌≤◌, ℕ, Some, slice_index}
use Rattle.partial_orders.specs.Pairs.{entity_of}
use Rattle.completion_check.proofs.marks.first_unmarked.Given as goal

abbrev pub invariant-loop-at : goal.invariant-loop-at
invariant-loop-at l =
    record {
      within : l.first ≤ l.bound;
      marked : (row ent : ℕ) → row < l.at → entity_of l.rows row ≡ Some ent → ent < l.first → 0 < slice_index l.places row;
      unmarked : l.first < l.bound → (row : ℕ) × (entity_of l.rows row ≡ Some l.first) × (slice_index l.places row ≡ 0);
    }
