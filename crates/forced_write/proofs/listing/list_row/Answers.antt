use Rattle.std.proofs.lemmas.Option.{slice_get-get_or}
use Rattle.forced_write.proofs.Growing.{row_more, row_all}
use Rattle.forced_write.proofs.listing.list_row.Goals as goal

pub loop-later-preserved : goal.loop-later-preserved
loop-later-preserved c =
    let rows = c.of_entity-later-items.result.now in
    row_more c.args.closure.now.spec c.args.rel.0 c.args.attr.0 c.args.earlier.0 c.args.lists.now.entities
    c.entity.result.0 c.loop-later.later-index rows _ _ _
    c.of_entity-later-items.ensures (slice_get-get_or rows c.loop-later.later-index _ c.loop-later-test.true)
    c.in_ok-list_pair.ensures c.loop-later.invariant

pub returns : goal.returns
returns c =
    row_all c.args.closure.now.spec c.args.lists.now c.args.rel.0 c.args.attr.0 c.args.earlier c.entity.result.0
    c.loop-later.later-index
    c.of_entity-later-items.result.now c.loop-later.pairs c.requires.column c.entity.ensures.value
    c.of_entity-later-items.ensures c.loop-later-test.false
    c.loop-later.invariant
