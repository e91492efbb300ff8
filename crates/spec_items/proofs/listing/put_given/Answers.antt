use Rattle.spec_items.proofs.Listed.{given_more}
use Rattle.spec_items.proofs.listing.put_given.Goals as goal

pub loop-rel-preserved : goal.loop-rel-preserved
loop-rel-preserved c =
    given_more c.args.relations.now c.loop-rel.rel c.index-relations-rel.result c.loop-rel.items c.put_pairs.new.items _
    c.loop-rel-test.true c.index-relations-rel.is c.loop-rel.invariant c.in_ok-put_pairs.ensures
