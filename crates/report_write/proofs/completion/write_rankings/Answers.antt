use Rattle.std.proofs.Common.{◌∙◌, ◌<◌, [], length, refl, rules}
use Rattle.report_write.specs.Pieces.{attr_rankings, rankings_pieces}
use Rattle.report_write.proofs.Listing.{item_more}
use Rattle.report_write.proofs.completion.write_rankings.Goals as goal

pub loop-rel-preserved : goal.loop-rel-preserved
loop-rel-preserved c =
    let relations = c.args.spec.now.relations in
    let inside : c.loop-rel.rel < length c.args.shown.now = search rules in
    item_more (rankings_pieces relations) (λ rel. attr_rankings relations rel 0) (λ i x xs. refl) c.args.shown.now
    c.loop-rel.rel [] _ _ inside
    c.in_ok-write_relation.ensures
    ∙ c.loop-rel.invariant
