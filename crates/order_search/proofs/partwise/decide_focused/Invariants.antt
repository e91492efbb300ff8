use Rattle.std.proofs.Common.{◌≡◌, ◌+◌}
use Rattle.refutation_log.specs.Counted.{counted_steps}
use Rattle.order_search.specs.Kept.{HasAdded, IsHeld, unmarked}
use Rattle.order_search.specs.Tied.{IsTied}
use Rattle.order_search.proofs.partwise.decide_focused.Given as goal

abbrev pub invariant-loop-outcome : goal.invariant-loop-outcome
invariant-loop-outcome g l = record {
  held : IsHeld l.subject l.progress.solver l.progress.brought.items;
  scope : l.progress.solver.trail.scope ≡ l.fn.progress.solver.trail.scope;
  added : HasAdded l.fn.progress.solver l.progress.solver;
  tied : IsTied l.subject l.parting l.progress.solver.steps;
  units : counted_steps l.progress.solver.steps + l.budget ≡ counted_steps l.fn.progress.solver.steps + l.fn.budget;
  same : l.parting ≡ l.fn.parting;
}

abbrev pub decreases-loop-outcome : goal.decreases-loop-outcome
decreases-loop-outcome g l = unmarked l.progress.brought.items
