use Rattle.std.proofs.Common.{◌∙◌, ◌<◌, [], List, length, refl, ap, rules}
use Rattle.currency_base.specs.declared.ids.RowId.{RowId}
use Rattle.spec_model.specs.Completion.{lists_of}
use Rattle.text_write.specs.Spacing.{writes_all}
use Rattle.report_write.specs.Pieces.{entity_rankings, ranking_pieces}
use Rattle.report_write.proofs.Listing.{item_more}
use Rattle.report_write.proofs.completion.write_attribute.Goals as goal

pub loop-ent-preserved : goal.loop-ent-preserved
loop-ent-preserved c =
    let relations = c.relations-relations.result.now in
    let lists = lists_of c.args.shown.now c.args.rel.0 c.args.attr.0 in
    let inside : c.loop-ent.ent < length lists = search rules in
    item_more (entity_rankings relations c.args.rel.0 c.args.attr.0)
    (ranking_pieces relations c.args.rel.0 c.args.attr.0) (λ i x xs. refl) lists
    c.loop-ent.ent [] _ _ inside
    (c.in_ok-write_ranking.ensures
    ∙ ap (λ (list : List RowId). writes_all c.loop-ent.into (ranking_pieces relations c.args.rel.0 c.args.attr.0
    c.loop-ent.ent list)) c.ranking-list.ensures)
    ∙ c.loop-ent.invariant
