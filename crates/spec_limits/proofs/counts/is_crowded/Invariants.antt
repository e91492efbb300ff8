-- The rows so far are counted, and no entity has too many of them.
use Rattle.std.proofs.Common.{ℕ, ◌≤◌, take}
use Rattle.spec_limits.specs.Limits.{rows_of}
use Rattle.spec_limits.proofs.Tally.{AreCounts}
use Rattle.spec_limits.proofs.counts.is_crowded.Given as goal

abbrev pub invariant-loop-row : goal.invariant-loop-row
invariant-loop-row l = record {
  counted : AreCounts l.entities l.tally (take l.row-index l.rows);
  low : (ent : ℕ) → rows_of ent (take l.row-index l.rows) ≤ 64;
}
