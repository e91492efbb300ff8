use Rattle.std.proofs.Common.{◌≡◌, ◌≤◌, take}
use Rattle.refutation_log.specs.Counted.{counted_steps}
use Rattle.report_verify.proofs.claim.count_counted.Given as goal

abbrev pub invariant-loop-place : goal.invariant-loop-place
invariant-loop-place l = record {
  same : l.count ≡ counted_steps (take l.place l.steps);
  few : l.count ≤ l.place;
}
