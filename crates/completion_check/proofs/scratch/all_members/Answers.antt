use Rattle.std.proofs.Common.{length, refl}
use Rattle.std.proofs.lemmas.Option.{slice_get_read}
use Rattle.spec_model.specs.Facts.{IsRelation}
use Rattle.completion_check.proofs.Kept.{all_at}
use Rattle.completion_check.proofs.Rooms.{members_none, members_next, members_all}
use Rattle.completion_check.proofs.scratch.all_members.Goals as goal

pub loop-relation-init : goal.loop-relation-init
loop-relation-init c = members_none c.new-all.result.items c.new-all.ensures.items

pub entity_rows-requires : goal.entity_rows-requires
entity_rows-requires c =
    let rs = c.args.relations.now in
    let at = slice_get_read rs (length rs) c.loop-relation.relation-index c.relation-item.result refl c.loop-relation-test.true
    c.relation-item.is in
    all_at IsRelation rs c.loop-relation.relation-index c.relation-item.result c.requires.each at

pub loop-relation-preserved : goal.loop-relation-preserved
loop-relation-preserved c =
    members_next c.args.relations.now c.loop-relation.all.items c.push.new.self.items c.loop-relation.relation-index
    c.relation-item.result c.in_ok-entity_rows.field-0
    c.loop-relation-test.true c.relation-item.is c.in_ok-entity_rows.ensures c.in_ok-push.ensures.items c.loop-relation.invariant

pub returns : goal.returns
returns c = members_all c.args.relations.now c.loop-relation.all.items c.loop-relation.relation-index c.loop-relation-test.false
    c.loop-relation.invariant
