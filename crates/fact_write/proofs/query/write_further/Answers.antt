use Rattle.std.proofs.Common.{◌∙◌}
use Rattle.fact_write.specs.Pieces.{or_pieces}
use Rattle.fact_write.proofs.Listing.{list_more}
use Rattle.fact_write.proofs.query.write_further.Goals as goal

pub loop-claim-preserved : goal.loop-claim-preserved
loop-claim-preserved c =
    list_more (or_pieces c.args.spec.now.relations) c.args.claims.now c.loop-claim.claim-index _ _ _ c.loop-claim-test.true
    c.in_ok-write_or.ensures
    ∙ c.loop-claim.invariant
