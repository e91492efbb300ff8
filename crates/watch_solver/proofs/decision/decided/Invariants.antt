use Rattle.std.proofs.Common.{◌≡◌, ◌+◌}
use Rattle.refutation_log.specs.Counted.{counted_steps}
use Rattle.search_state.specs.States.{vars_of}
use Rattle.watch_solver.specs.Underway.{HasCounted, IsOfGoal}
use Rattle.watch_solver.proofs.decision.decided.Given as goal

abbrev pub invariant-loop-found : goal.invariant-loop-found
invariant-loop-found g l = record {
  frame : l.state.frame ≡ l.fn.state.frame;
  scope : l.state.trail.scope ≡ l.fn.state.trail.scope;
  counted : HasCounted (vars_of l.fn.state) l.fn.state.steps l.state.steps;
  units : counted_steps l.state.steps + l.budget ≡ counted_steps l.fn.state.steps + l.fn.budget;
  kept : IsOfGoal l.state.trail l.goal;
}

abbrev pub decreases-loop-found : goal.decreases-loop-found
decreases-loop-found g l = l.budget
