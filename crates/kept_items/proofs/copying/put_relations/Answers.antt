use Rattle.kept_items.proofs.Places.{read_item}
use Rattle.kept_items.proofs.Putting.{relation_fits}
use Rattle.kept_items.proofs.copying.put_relations.Goals as goal

pub put_relation-requires-clause-fits : goal.put_relation-requires-clause-fits
put_relation-requires-clause-fits c =
    let relations = c.args.whole.now.relations in
    let items = c.relations-relation-items in
    let here = read_item relations items.result.now c.loop-relation.relation-index c.relation-item.result items.ensures.value
    c.loop-relation-test.true c.relation-item.is in
    relation_fits c.args.marks.now c.loop-relation.at relations c.loop-relation.relation-index c.relation-item.result
    c.loop-relation.part.relations _ c.requires.fits here c.loop-relation.invariant.kept
