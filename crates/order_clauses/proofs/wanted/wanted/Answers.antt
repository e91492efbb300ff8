use Rattle.std.proofs.Common.{arith}
use Rattle.order_clauses.specs.Listing.{wanted_at, wanted_labels}
use Rattle.order_clauses.proofs.Adding.{below_none, below_more, below_all}
use Rattle.order_clauses.proofs.wanted.wanted.Goals as goal

pub loop-rel-init : goal.loop-rel-init
loop-rel-init c =
    below_none c.args.sayings.now (wanted_at c.args.sayings.now) c.args.steps.now

pub loop-rel-preserved : goal.loop-rel-preserved
loop-rel-preserved c =
    below_more c.args.sayings.now (wanted_at c.args.sayings.now) c.loop-rel.rel _ _ _ c.loop-rel.invariant
    c.in_ok-if_wanted.ensures

pub returns : goal.returns
unfolding wanted_labels
returns c =
    below_all c.args.sayings.now (wanted_at c.args.sayings.now) c.loop-rel.rel _ _ _ (omega arith) c.loop-rel.invariant
