use Rattle.std.proofs.Common.{◌≡◌, All, drop}
use Rattle.spec_model.specs.Completion.{HasShape}
use Rattle.currency_report.specs.Completed.{all_completed}
use Rattle.currency_report.specs.Following.{going_on}
use Rattle.currency_report.proofs.complete.all_completed.Given as goal

abbrev pub invariant-loop-tree : goal.invariant-loop-tree
invariant-loop-tree l = record {
  due : going_on l.version l.spec.relations l.list (drop l.tree-index l.trees) ≡ all_completed l.version l.spec.relations l.trees;
  shape : All (HasShape l.spec.relations) l.list;
}
