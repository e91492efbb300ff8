-- What is marked so far, swept from here on, is what is to be marked.
use Rattle.std.proofs.Common.{◌≡◌, ◌≤◌, length}
use Rattle.log_trim.specs.Trimmed.{hints_at}
use Rattle.log_trim.specs.Marked.{swept}
use Rattle.log_trim.proofs.needs.sweep.Given as goal

abbrev pub invariant-loop-place : goal.invariant-loop-place
invariant-loop-place l = record {
  within : l.place ≤ length l.steps;
  count : length l.marks ≡ length l.steps;
  all : swept (hints_at l.steps) l.place l.marks ≡ swept (hints_at l.steps) (length l.steps) l.initial.marks;
}

abbrev pub decreases-loop-place : goal.decreases-loop-place
decreases-loop-place l = l.place
