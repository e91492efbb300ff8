use Rattle.completion_check.proofs.Rooms.{room_none, room_next, room_all}
use Rattle.completion_check.proofs.scratch.all_places.Goals as goal

pub loop-relation-init : goal.loop-relation-init
loop-relation-init c = room_none c.new-all.result.items c.new-all.ensures.items

pub loop-relation-preserved : goal.loop-relation-preserved
loop-relation-preserved c =
    room_next c.args.relations.now c.loop-relation.all.items c.push.new.self.items c.loop-relation.relation-index
    c.relation-item.result c.in_ok-places_of.field-0
    c.loop-relation-test.true c.relation-item.is c.in_ok-places_of.ensures c.in_ok-push.ensures.items c.loop-relation.invariant

pub returns : goal.returns
returns c = room_all c.args.relations.now c.loop-relation.all.items c.loop-relation.relation-index c.loop-relation-test.false
    c.loop-relation.invariant
