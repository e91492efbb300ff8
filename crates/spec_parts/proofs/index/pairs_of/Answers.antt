use Rattle.std.proofs.Common.{◌<◌, ◌∙◌, length, map, arith}
use Rattle.std.specs.Map.Iter.{deref}
use Rattle.std.proofs.lemmas.List.{map_push}
use Rattle.std.proofs.lemmas.Map.Iter.{iter_turn, iter_end}
use Rattle.part_laws.proofs.Rows.{entity_of_row}
use Rattle.spec_parts.proofs.Indexing.{indexed_none, indexed_more, indexed_all, given_pair, entity_within}
use Rattle.spec_parts.proofs.index.pairs_of.Goals as goal

pub row-requires : goal.row-requires
row-requires c =
    let given = c.args.relation.now.given in
    let turn = iter_turn deref given c.loop-pair.yielded c.into_iter-pair-iterator.result c.loop-pair.pair-iterator
    c.next.new.self
    c.next.result
    (c.into_iter-pair-iterator.ensures.into_iter_gives ∙ c.iter-pair-items.ensures.all) c.loop-pair.yielded_by
    c.in-Some.pair c.in-Some.is
    c.next.ensures.steps in
    let is = given_pair c.args.relation.now (length c.loop-pair.yielded) c.in-Some.pair.now c.requires turn.1 in
    is.earlier

pub put_pair-requires : goal.put_pair-requires
put_pair-requires c =
    let within = entity_within c.args.relation.now c.in-Some.pair.now.earlier.0 c.row.result.now c.requires c.row.ensures in
    omega (arith, within, c.loop-pair.invariant.per_entity)

pub loop-pair-init : goal.loop-pair-init
loop-pair-init c = indexed_none c.args.relation.now c.in_ok-lists.lists (c.in_ok-lists.ensures.many ∙ c.len.ensures)
    c.in_ok-lists.ensures.empty

pub loop-pair-preserved : goal.loop-pair-preserved
loop-pair-preserved c =
    let r = c.args.relation.now in
    let pair = c.in-Some.pair.now in
    let within = entity_within r pair.earlier.0 c.row.result.now c.requires c.row.ensures in
    let in_lists : c.row.result.now.entity.0 < length c.loop-pair.lists =
    omega (arith, within, c.loop-pair.invariant.per_entity) in
    rw (map_push deref c.loop-pair.yielded c.in-Some.pair)
    (indexed_more r (map deref c.loop-pair.yielded) c.loop-pair.lists c.put_pair.new.lists pair c.row.result.now.entity.0
    c.loop-pair.invariant
    (entity_of_row r.rows pair.earlier.0 c.row.result.now c.row.ensures) in_lists c.in_ok-put_pair.ensures)

pub returns : goal.returns
returns c =
    let given = c.args.relation.now.given in
    let end = iter_end deref given c.loop-pair.yielded c.into_iter-pair-iterator.result c.loop-pair.pair-iterator c.next.new.self
    c.next.result
    (c.into_iter-pair-iterator.ensures.into_iter_gives ∙ c.iter-pair-items.ensures.all) c.loop-pair.yielded_by c.in-None.is
    c.next.ensures.steps in
    indexed_all c.args.relation.now (map deref c.loop-pair.yielded) c.loop-pair.lists end.0 c.loop-pair.invariant
