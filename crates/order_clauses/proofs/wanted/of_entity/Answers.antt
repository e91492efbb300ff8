use Rattle.std.proofs.lemmas.Option.{slice_get-get_or}
use Rattle.order_clauses.specs.Listing.{row_labels, entity_labels}
use Rattle.order_clauses.proofs.Adding.{flat_more, flat_all}
use Rattle.order_clauses.proofs.WantedClauses.{member_of, wanted_member}
use Rattle.order_clauses.proofs.wanted.of_entity.Goals as goal

pub of_row-requires-clause-row : goal.of_row-requires-clause-row
of_row-requires-clause-row c =
    wanted_member c.args.column.now c.args.ent.0 c.loop-row.row-index _ c.members-row-items.result.now
    c.requires.wanted c.members-row-items.ensures c.loop-row-test.true
    (slice_get-get_or c.members-row-items.result.now c.loop-row.row-index _ c.loop-row-test.true)

pub of_row-requires-clause-of_entity : goal.of_row-requires-clause-of_entity
of_row-requires-clause-of_entity c =
    member_of c.args.column.now.relation c.args.ent.0 c.loop-row.row-index _ c.members-row-items.result.now
    c.members-row-items.ensures c.loop-row-test.true
    (slice_get-get_or c.members-row-items.result.now c.loop-row.row-index _ c.loop-row-test.true)

pub loop-row-preserved : goal.loop-row-preserved
loop-row-preserved c =
    flat_more c.args.column.now.subject (row_labels c.args.column.now c.args.ent.0) c.members-row-items.result.now
    c.loop-row.row-index _ _ _ _
    (slice_get-get_or c.members-row-items.result.now c.loop-row.row-index _ c.loop-row-test.true)
    c.loop-row.invariant c.in_ok-of_row.ensures

pub returns : goal.returns
unfolding entity_labels
returns c =
    rw (← c.members-row-items.ensures)
    (flat_all c.args.column.now.subject (row_labels c.args.column.now c.args.ent.0) c.members-row-items.result.now
    c.loop-row.row-index _ _ c.loop-row-test.false c.loop-row.invariant)
