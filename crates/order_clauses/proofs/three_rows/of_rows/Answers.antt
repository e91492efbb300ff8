use Rattle.std.proofs.Common.{arith}
use Rattle.order_clauses.specs.Listing.{third_labels, three_labels}
use Rattle.order_clauses.proofs.Adding.{below_none, below_more, below_all}
use Rattle.order_clauses.proofs.three_rows.of_rows.Goals as goal

pub loop-third-init : goal.loop-third-init
loop-third-init c =
    below_none c.args.column.now.subject (third_labels c.args.column.now c.args.members.now) c.args.steps.now

pub loop-third-preserved : goal.loop-third-preserved
loop-third-preserved c =
    below_more c.args.column.now.subject (third_labels c.args.column.now c.args.members.now) c.loop-third.third _ _ _
    c.loop-third.invariant c.in_ok-with_third.ensures

pub returns : goal.returns
unfolding three_labels
returns c =
    below_all c.args.column.now.subject (third_labels c.args.column.now c.args.members.now) c.loop-third.third _ _ _
    (omega arith) c.loop-third.invariant
