use Rattle.std.proofs.Common.{◌≡◌, ◌++◌, take}
use Rattle.order_search.proofs.bringing.add_all.Given as goal

abbrev pub invariant-loop-place : goal.invariant-loop-place
invariant-loop-place g l = record {
  frame : l.solver.frame ≡ l.initial.solver.frame;
  scope : l.solver.trail.scope ≡ l.initial.solver.trail.scope;
  steps : l.solver.steps ≡ l.initial.solver.steps ++ take l.place l.axioms;
}
