use Rattle.std.proofs.Common.{◌≡◌}
use Rattle.refutation_log.specs.Counted.{counted_steps}
use Rattle.order_search.specs.Kept.{HasAdded, IsHeld}
use Rattle.order_search.specs.Tied.{KeepsTied}
use Rattle.order_search.proofs.linked.bring_lists.Given as goal

abbrev pub invariant-loop-place : goal.invariant-loop-place
invariant-loop-place g l = record {
  held : IsHeld l.subject l.progress.solver l.progress.brought.items;
  added : HasAdded l.initial.progress.solver l.progress.solver;
  tied : KeepsTied l.subject l.initial.progress.solver.steps l.progress.solver.steps;
  units : counted_steps l.progress.solver.steps ≡ counted_steps l.initial.progress.solver.steps;
}
