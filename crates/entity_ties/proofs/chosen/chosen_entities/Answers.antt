use Rattle.std.proofs.Common.{◌<◌, length, get_or, arith}
use Rattle.std.proofs.lemmas.Option.{slice_get-get_or}
use Rattle.entity_ties.specs.Chosen.{AddsEntities}
use Rattle.entity_ties.proofs.Gathering.{chosen_more, gathered_within}
use Rattle.entity_ties.proofs.chosen.chosen_entities.Goals as goal

pub add_entities-requires : goal.add_entities-requires
add_entities-requires c =
    let parts = c.args.parts.now in
    let part = get_or c.args.chosen.now c.loop-part.part-index 0 in
    rw c.as_slice.ensures (gathered_within parts part (length c.loop-part.found) c.args.relations c.get.result.now
    c.get.ensures c.loop-part.invariant.many
    (c.requires.relations part))

pub loop-part-preserved : goal.loop-part-preserved
loop-part-preserved c =
    let parts = c.args.parts.now in
    let chosen = c.args.chosen.now in
    let i = c.loop-part.part-index in
    let below : i < length chosen = omega arith in
    let adds : AddsEntities c.get.result.now c.loop-part.found c.add_entities.new.found = rw c.as_slice.ensures at
    c.in_ok-add_entities.ensures in
    chosen_more parts chosen c.args.relations i (get_or chosen i 0) c.get.result.now c.loop-part.found c.add_entities.new.found
    (slice_get-get_or chosen i 0 below) c.get.ensures c.loop-part.invariant adds
