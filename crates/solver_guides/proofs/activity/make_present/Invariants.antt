use Rattle.std.proofs.Common.{◌≡◌, drop, true}
use Rattle.solver_guides.specs.Known.{marked}
use Rattle.solver_guides.proofs.activity.make_present.Given as goal

abbrev pub invariant-loop-var : goal.invariant-loop-var
invariant-loop-var l = record {
  counts : l.tree.counts ≡ l.initial.tree.counts;
  so_far : marked l.tree.present (drop l.var-index l.vars) true ≡ marked l.initial.tree.present l.vars true;
}
