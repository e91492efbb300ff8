use Rattle.std.proofs.Common.{[], ◌<◌, ◌≤◌, ℕ, slice_index_or}
use Rattle.completion_check.specs.Marks.{AreMarksOf, IsUnmarked}
use Rattle.completion_check.proofs.marks.mark_lists.Given as goal

abbrev pub invariant-loop-ent : goal.invariant-loop-ent
invariant-loop-ent l =
    record {
      marks : (ent : ℕ) → ent < l.ent → AreMarksOf l.rows ent (slice_index_or l.lists ent []) l.places;
      unmarked : (ent : ℕ) → l.ent ≤ ent → IsUnmarked l.rows ent l.places;
    }
