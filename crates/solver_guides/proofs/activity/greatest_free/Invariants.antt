use Rattle.std.proofs.Common.{◌≡◌, None}
use Rattle.solver_guides.specs.Choices.{greatest_of}
use Rattle.solver_guides.proofs.Taken.{how_many}
use Rattle.solver_guides.proofs.activity.greatest_free.Given as goal

abbrev pub invariant-loop-var : goal.invariant-loop-var
invariant-loop-var l = record {
  counts : l.tree.counts ≡ l.initial.tree.counts;
  same : greatest_of l.tree.counts l.tree.present l.values.given l.values.scope None ≡ greatest_of l.initial.tree.counts
      l.initial.tree.present l.values.given l.values.scope None;
}

abbrev pub decreases-loop-var : goal.decreases-loop-var
decreases-loop-var l = how_many l.tree.present
