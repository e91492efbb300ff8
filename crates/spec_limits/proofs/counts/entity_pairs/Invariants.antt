-- The rows so far are counted, and so are their pairs, of which there are fewer than 2^32 for each row.
use Rattle.std.proofs.Common.{◌≡◌, ◌≤◌, ◌*◌, take}
use Rattle.spec_limits.specs.Limits.{entity_pairs}
use Rattle.spec_limits.proofs.Tally.{AreCounts}
use Rattle.spec_limits.proofs.counts.entity_pairs.Given as goal

abbrev pub invariant-loop-row : goal.invariant-loop-row
invariant-loop-row l = record {
  counted : AreCounts l.entities l.tally (take l.row-index l.rows);
  pairs : l.pairs ≡ entity_pairs (take l.row-index l.rows);
  few : l.pairs ≤ l.row-index * 4294967296;
}
