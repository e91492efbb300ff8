use Rattle.std.proofs.Common.{◌≤◌, ◌-◌, length}
use Rattle.common_answers.proofs.Rest.{AreBelow}
use Rattle.common_answers.proofs.merging.first_not_below.Given as goal

abbrev pub invariant-loop-at : goal.invariant-loop-at
invariant-loop-at l = record {
  later : l.fn.from ≤ l.at;
  below : AreBelow l.tuples l.fn.from l.at l.tuple;
}

abbrev pub decreases-loop-at : goal.decreases-loop-at
decreases-loop-at l = length l.tuples - l.at
