-- The places so far have their ranks, and the count is the next one.
use Rattle.std.proofs.Common.{◌≡◌, ◌<◌, ℕ, length, slice_index}
use Rattle.log_trim.specs.Trimmed.{rank}
use Rattle.log_trim.specs.Marked.{is_marked}
use Rattle.log_trim.proofs.numbering.ranks_of.Given as goal

abbrev pub invariant-loop-place : goal.invariant-loop-place
invariant-loop-place l = record {
  length : length l.ranks.items ≡ l.place;
  each : (k : ℕ) → k < l.place → slice_index l.ranks.items k ≡ rank (is_marked l.marks) k;
  count : l.count ≡ rank (is_marked l.marks) l.place;
}
