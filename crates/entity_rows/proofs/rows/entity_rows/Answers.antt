use Rattle.std.proofs.Common.{◌≡◌, ◌<◌, length, get_or, refl}
use Rattle.std.proofs.lemmas.List.Elements.{All-get_or}
use Rattle.entity_rows.proofs.MembersMore.{entity_rows_more}
use Rattle.entity_rows.proofs.rows.entity_rows.Goals as goal

pub loop-at-preserved : goal.loop-at-preserved
loop-at-preserved c =
    let r = c.args.relation.now in
    let within : c.loop-at.at < length r.rows = rw c.as_slice-row-items.ensures at c.loop-at-test.true in
    let read : c.row-item.result ≡ get_or r.rows c.loop-at.at c.row-item.result = rw c.as_slice-row-items.ensures at
    c.row-item.is in
    let inside : (get_or r.rows c.loop-at.at c.row-item.result).entity.0 < length r.entities =
    All-get_or (λ row. row.entity.0 < length r.entities) r.rows c.loop-at.at c.row-item.result within c.requires.entities in
    let mine : c.row-item.result.entity.0 < length r.entities = rw (← read) at inside in
    rw c.in_ok-put.ensures
    (entity_rows_more r.rows (length r.entities) c.loop-at.at c.row-item.result (record { 0 = c.loop-at.at })
    c.loop-at.lists.items within read refl mine c.loop-at.invariant)
