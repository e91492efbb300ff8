use Rattle.std.proofs.lemmas.Option.{slice_get-get_or}
use Rattle.order_clauses.specs.Listing.{copy_label, copy_place}
use Rattle.order_clauses.proofs.Adding.{flat_more, flat_all}
use Rattle.order_clauses.proofs.copied.copied_at.Goals as goal

pub loop-pair-preserved : goal.loop-pair-preserved
loop-pair-preserved c =
    flat_more c.args.sayings.now (copy_label c.args.copy c.args.place) c.args.pairs.now c.loop-pair.pair-index _ _ _ _
    (slice_get-get_or c.args.pairs.now c.loop-pair.pair-index _ c.loop-pair-test.true) c.loop-pair.invariant
    c.in_ok-push_copy.ensures

pub returns : goal.returns
unfolding copy_place
returns c = flat_all c.args.sayings.now (copy_label c.args.copy c.args.place) c.args.pairs.now c.loop-pair.pair-index
    _ _ c.loop-pair-test.false c.loop-pair.invariant
