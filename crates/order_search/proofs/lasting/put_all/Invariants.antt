use Rattle.std.proofs.Common.{◌≡◌, ◌++◌, take}
use Rattle.refutation_log.specs.Counted.{counted_steps}
use Rattle.order_search.specs.Kept.{HasAdded}
use Rattle.order_search.specs.Lasting.{KeepsHeldBy, KeepsAllTied}
use Rattle.order_search.proofs.lasting.put_all.Given as goal

abbrev pub invariant-loop-place : goal.invariant-loop-place
invariant-loop-place g l = record {
  keeps : KeepsHeldBy l.steps l.initial.solver l.solver;
  tied : KeepsAllTied l.initial.solver l.solver;
  scope : l.solver.trail.scope ≡ l.initial.solver.trail.scope;
  added : HasAdded l.initial.solver l.solver;
  units : counted_steps l.solver.steps ≡ counted_steps l.initial.solver.steps;
  steps : l.solver.steps ≡ l.initial.solver.steps ++ take l.place l.steps;
}
