use Rattle.std.proofs.Common.{arith}
use Rattle.order_clauses.specs.Listing.{second_labels, third_labels}
use Rattle.order_clauses.proofs.Adding.{below_none, below_more, below_all}
use Rattle.order_clauses.proofs.three_rows.with_third.Goals as goal

pub loop-second-init : goal.loop-second-init
loop-second-init c =
    below_none c.args.column.now.subject (second_labels c.args.column.now c.args.members.now c.args.third) c.args.steps.now

pub loop-second-preserved : goal.loop-second-preserved
loop-second-preserved c =
    below_more c.args.column.now.subject (second_labels c.args.column.now c.args.members.now c.args.third)
    c.loop-second.second _ _ _ c.loop-second.invariant c.in_ok-with_second.ensures

pub returns : goal.returns
unfolding third_labels
returns c =
    below_all c.args.column.now.subject (second_labels c.args.column.now c.args.members.now c.args.third)
    c.loop-second.second _ _ _ (omega arith) c.loop-second.invariant
