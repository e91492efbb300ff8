use Rattle.order_clauses.specs.Listing.{copy_place}
use Rattle.order_clauses.proofs.Adding.{below_none, below_more}
use Rattle.order_clauses.proofs.copied.copied_by.Goals as goal

pub loop-place-init : goal.loop-place-init
loop-place-init c = below_none c.args.sayings.now (copy_place c.args.copy c.args.pairs.now) c.args.steps.now

pub loop-place-preserved : goal.loop-place-preserved
loop-place-preserved c =
    below_more c.args.sayings.now (copy_place c.args.copy c.args.pairs.now) c.loop-place.place _ _ _
    c.loop-place.invariant c.in_ok-copied_at.ensures
