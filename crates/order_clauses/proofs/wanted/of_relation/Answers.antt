use Rattle.std.proofs.Common.{arith}
use Rattle.order_clauses.specs.Listing.{attr_labels, relation_labels}
use Rattle.order_clauses.proofs.Adding.{below_none, below_more, below_all}
use Rattle.order_clauses.proofs.wanted.of_relation.Goals as goal

pub loop-attr-init : goal.loop-attr-init
loop-attr-init c =
    below_none c.args.sayings.now (attr_labels c.args.sayings.now c.args.relation.now c.args.rel) c.args.steps.now

pub loop-attr-preserved : goal.loop-attr-preserved
loop-attr-preserved c =
    below_more c.args.sayings.now (attr_labels c.args.sayings.now c.args.relation.now c.args.rel) c.loop-attr.attr _
    _ _ c.loop-attr.invariant c.in_ok-of_attribute.ensures

pub returns : goal.returns
unfolding relation_labels
returns c =
    below_all c.args.sayings.now (attr_labels c.args.sayings.now c.args.relation.now c.args.rel) c.loop-attr.attr _ _
    _ (omega arith) c.loop-attr.invariant
