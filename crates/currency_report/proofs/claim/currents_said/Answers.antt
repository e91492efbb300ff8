use Rattle.std.proofs.Common.{refl}
use Rattle.currency_report.specs.Claimed.{current_said, currents_said}
use Rattle.currency_report.specs.Places.{entity_named}
use Rattle.currency_report.proofs.Outcomes.{ends}
use Rattle.currency_report.proofs.claim.currents_said.Goals as goal

pub returns-in-Err : goal.returns-in-Err
returns-in-Err c =
    ends (λ t. current_said t (entity_named c.args.spec.now.relations t.relation t.entity))
    (currents_said c.args.spec.now.relations) (λ t ts. refl)
    c.args.trees.now c.loop-tree.tree-index c.tree-item.result c.loop-tree.list c.in-Err.fault c.loop-tree-test.true
    c.tree-item.is
    c.loop-tree.invariant c.in-Err.ensures
