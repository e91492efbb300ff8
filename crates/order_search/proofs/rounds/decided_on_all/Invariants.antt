use Rattle.std.proofs.Common.{◌≡◌, ◌+◌, length}
use Rattle.refutation_log.specs.Counted.{counted_steps}
use Rattle.search_trail.specs.Trails.{whole_scope}
use Rattle.order_search.specs.Kept.{HasAdded, IsHeld, unmarked, vars_of}
use Rattle.order_search.specs.Tied.{KeepsTied}
use Rattle.order_search.proofs.rounds.decided_on_all.Given as goal

abbrev pub invariant-loop-outcome : goal.invariant-loop-outcome
invariant-loop-outcome g l = record {
  held : IsHeld l.subject l.progress.solver l.progress.brought.items;
  scope : l.progress.solver.trail.scope ≡ whole_scope (length (vars_of l.subject));
  added : HasAdded l.fn.progress.solver l.progress.solver;
  tied : KeepsTied l.subject l.fn.progress.solver.steps l.progress.solver.steps;
  units : counted_steps l.progress.solver.steps + l.budget ≡ counted_steps l.fn.progress.solver.steps + l.fn.budget;
}

abbrev pub decreases-loop-outcome : goal.decreases-loop-outcome
decreases-loop-outcome g l = unmarked l.progress.brought.items
