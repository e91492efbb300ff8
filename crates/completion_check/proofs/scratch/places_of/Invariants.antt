use Rattle.std.proofs.Common.{◌≡◌, ◌<◌, ℕ, [], length, slice_index_or}
use Rattle.completion_check.proofs.scratch.places_of.Given as goal

abbrev pub invariant-loop : goal.invariant-loop
invariant-loop l =
    record {
      count : length l.attrs.items ≡ l.counter;
      each : (attr : ℕ) → attr < l.counter → length (slice_index_or l.attrs.items attr []) ≡ l.rows;
    }
