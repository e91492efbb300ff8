use Rattle.std.proofs.Common.{◌≤◌, length, arith}
use Rattle.order_clauses.specs.Listing.{ground_label, ground_labels}
use Rattle.order_clauses.proofs.Adding.{flat_more, flat_all}
use Rattle.order_clauses.proofs.ruled.ruled_by.Goals as goal

pub loop-place-preserved : goal.loop-place-preserved
loop-place-preserved c =
    flat_more c.args.sayings.now (ground_label c.args.rule) c.args.grounds.now c.loop-place.place _ _ _ _
    c.get.ensures c.loop-place.invariant c.in_ok-push_ground.ensures

pub returns : goal.returns
unfolding ground_labels
returns c =
    let all : length c.args.grounds.now ≤ c.loop-place.place = omega arith in
    flat_all c.args.sayings.now (ground_label c.args.rule) c.args.grounds.now c.loop-place.place _ _ all c.loop-place.invariant
