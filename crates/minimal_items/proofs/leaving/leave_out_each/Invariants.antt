use Rattle.minimal_items.specs.Trials.{AreReducedUpTo}
use Rattle.minimal_items.proofs.leaving.leave_out_each.Given as goal

abbrev pub invariant-loop-place : goal.invariant-loop-place
invariant-loop-place g l = record {
  reduced : AreReducedUpTo l.spec l.question l.place l.marks l.needed;
}
