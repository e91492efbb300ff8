use Rattle.currency_report.proofs.Listed.{one_listed, each_listed}
use Rattle.currency_report.proofs.complete.all_completed.Goals as goal

pub loop-tree-preserved : goal.loop-tree-preserved
loop-tree-preserved c = record {
  due = one_listed c.args.version c.args.spec.now.relations c.args.trees.now c.loop-tree.tree-index
      c.tree-item.result c.loop-tree.list c.push.new.self
      c.in-Ok.completion c.loop-tree-test.true c.tree-item.is c.loop-tree.invariant.due
      (rw c.as_slice.ensures at c.in-Ok.ensures.due)
      c.in_ok-push.ensures.ok;
  shape = each_listed c.args.spec.now.relations c.loop-tree.list c.push.new.self c.in-Ok.completion
      c.loop-tree.invariant.shape c.in-Ok.ensures.shape
      c.in_ok-push.ensures.ok;
}
