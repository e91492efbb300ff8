use Rattle.part_join.proofs.Placing.{rest_stays}
use Rattle.part_join.proofs.Setting.{list_read, entity_read, put_one}
use Rattle.part_join.proofs.joining.put_list.Goals as goal

pub rows_of-requires : goal.rows_of-requires
rows_of-requires c =
    let rel = c.args.rel.0 in
    let is = list_read c.args.narrow.now rel c.args.attr.0 c.args.place c.attribute.result.now c.get.result.now
    c.as_slice-list.result.now
    c.attribute.ensures c.get.ensures c.as_slice-list.ensures in
    rw (is, c.rows.ensures) (c.requires.to_put.within rel c.args.attr.0 c.args.place)

pub set-requires-clause-ent : goal.set-requires-clause-ent
set-requires-clause-ent c =
    let n = c.args.places.now in
    let at = entity_read n c.args.rel.0 c.args.place c.entities.result.now _ c.entities.ensures c.requires.place in
    c.requires.so_far.room.per_entity c.args.rel.0 c.args.attr.0 c.requires.attr c.args.place _ at

pub returns-clause-put : goal.returns-clause-put
returns-clause-put c =
    let n = c.args.places.now in
    let rel = c.args.rel.0 in
    let attr = c.args.attr.0 in
    let k = c.args.place in
    let at = entity_read n rel k c.entities.result.now _ c.entities.ensures c.requires.place in
    let is = list_read c.args.narrow.now rel attr k c.attribute.result.now c.get.result.now c.as_slice-list.result.now
    c.attribute.ensures c.get.ensures c.as_slice-list.ensures in
    put_one n c.args.narrow.now c.args.completion.now c.set.new.self rel attr k _
    c.rows.result.now c.as_slice-list.result.now c.in_ok-list.list
    c.requires.to_put c.requires.attr at c.requires.so_far c.rows.ensures is c.in_ok-list.ensures c.set.ensures

pub returns-clause-rest : goal.returns-clause-rest
returns-clause-rest c =
    let n = c.args.places.now in
    let rel = c.args.rel.0 in
    let at = entity_read n rel c.args.place c.entities.result.now _ c.entities.ensures c.requires.place in
    rw c.set.ensures (rest_stays n c.args.completion.now rel c.args.attr.0 c.args.place _ c.in_ok-list.list at)
