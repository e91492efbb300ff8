use Rattle.std.proofs.lemmas.Option.{slice_get_within}
use Rattle.known_models.proofs.Finding.{lists_more, there}
use Rattle.known_models.proofs.ranking.rank_entity.Goals as goal

pub attrs-attrs-requires : goal.attrs-attrs-requires
attrs-attrs-requires c =
    let p = c.args.parted.now in
    let m = c.args.member in
    let is = there p m.rel.0 m.ent.0 c.args.part c.facts.ensures.ties c.requires.member in
    slice_get_within p.spec.relations m.rel.0 is.relation is.is_relation

pub loop-attr-preserved : goal.loop-attr-preserved
loop-attr-preserved c =
    let m = c.args.member in
    lists_more c.args.parted.now c.args.part c.args.truths.now m.rel.0 c.loop-attr.attr m.ent.0 c.args.draft.now c.loop-attr.draft
    c.rank_list.new.draft c.loop-attr.invariant c.in_ok-rank_list.ensures
