use Rattle.std.proofs.Common.{arith}
use Rattle.order_clauses.specs.Listing.{entity_labels, attr_labels}
use Rattle.order_clauses.proofs.Adding.{below_none, below_more, below_all}
use Rattle.order_clauses.proofs.wanted.of_attribute.Goals as goal

pub loop-ent-init : goal.loop-ent-init
loop-ent-init c =
    below_none c.args.column.now.subject (entity_labels c.args.column.now) c.args.steps.now

pub loop-ent-preserved : goal.loop-ent-preserved
loop-ent-preserved c =
    below_more c.args.column.now.subject (entity_labels c.args.column.now) c.loop-ent.ent _ _ _ c.loop-ent.invariant
    c.in_ok-of_entity.ensures

pub returns : goal.returns
unfolding attr_labels
returns c =
    below_all c.args.column.now.subject (entity_labels c.args.column.now) c.loop-ent.ent _ _ _ (omega arith) c.loop-ent.invariant
