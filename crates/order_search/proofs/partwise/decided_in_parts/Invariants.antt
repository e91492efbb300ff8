use Rattle.std.proofs.Common.{◌≡◌, ◌+◌, ◌<◌, ℕ, IfSome, Some, true, slice_get}
use Rattle.refutation_log.specs.Counted.{counted_steps}
use Rattle.order_search.specs.Kept.{HasAdded, IsHeld}
use Rattle.order_search.specs.Made.{HasSame, IsFalseIn}
use Rattle.order_search.specs.Tied.{IsTied}
use Rattle.order_search.proofs.partwise.decided_in_parts.Given as goal

abbrev pub invariant-loop-part : goal.invariant-loop-part
invariant-loop-part g l = record {
  held : IsHeld l.subject l.progress.solver l.progress.brought.items;
  added : HasAdded l.initial.progress.solver l.progress.solver;
  tied : IsTied l.subject l.parting l.progress.solver.steps;
  same : HasSame l.initial.parting l.parting;
  units : counted_steps l.progress.solver.steps + l.budget ≡ counted_steps l.initial.progress.solver.steps + l.initial.budget;
  goal_false : IfSome l.goal (IsFalseIn l.parting l.own);
  own_done : IfSome l.own (λ part. slice_get l.parting.known.done part ≡ Some true);
  done : (other : ℕ) → other < l.part → slice_get l.parting.known.done other ≡ Some true;
}
