use Rattle.std.proofs.Common.{◌∙◌, ◌<◌, [], length, slice_index_or, refl, rules}
use Rattle.report_write.specs.Pieces.{attr_rankings, entity_rankings}
use Rattle.report_write.proofs.Listing.{item_more}
use Rattle.report_write.proofs.completion.write_relation.Goals as goal

pub loop-attr-preserved : goal.loop-attr-preserved
loop-attr-preserved c =
    let relations = c.args.spec.now.relations in
    let attrs = slice_index_or c.args.shown.now c.args.rel.0 [] in
    let inside : c.loop-attr.attr < length attrs = search rules in
    item_more (attr_rankings relations c.args.rel.0) (λ attr. entity_rankings relations c.args.rel.0 attr 0)
    (λ i x xs. refl) attrs c.loop-attr.attr [] _ _
    inside c.in_ok-write_attribute.ensures
    ∙ c.loop-attr.invariant
