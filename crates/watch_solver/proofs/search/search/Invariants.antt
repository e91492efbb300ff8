use Rattle.std.proofs.Common.{◌≡◌, ◌-◌, length}
use Rattle.search_state.specs.States.{vars_of}
use Rattle.watch_solver.specs.Underway.{IsOfGoal}
use Rattle.watch_solver.proofs.search.search.Given as goal

abbrev pub invariant-loop-stop : goal.invariant-loop-stop
invariant-loop-stop g l = record {
  frame : l.state.frame ≡ l.initial.state.frame;
  scope : l.state.trail.scope ≡ l.initial.state.trail.scope;
  steps : l.state.steps ≡ l.initial.state.steps;
  kept : IsOfGoal l.state.trail l.goal;
}

abbrev pub decreases-loop-stop : goal.decreases-loop-stop
decreases-loop-stop g l = vars_of l.state - length l.state.trail.entries
