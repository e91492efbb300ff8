use Rattle.std.proofs.lemmas.Option.{slice_get-get_or}
use Rattle.order_clauses.specs.Listing.{above_label, above_labels}
use Rattle.order_clauses.proofs.Adding.{flat_more, flat_all}
use Rattle.order_clauses.proofs.WantedClauses.{member_of}
use Rattle.order_clauses.proofs.wanted.above.Goals as goal

pub push_above-requires-clause-other : goal.push_above-requires-clause-other
push_above-requires-clause-other c =
    member_of c.args.column.now.relation c.args.ent.0 c.loop-other.other-index _ c.members-other-items.result.now
    c.members-other-items.ensures c.loop-other-test.true
    (slice_get-get_or c.members-other-items.result.now c.loop-other.other-index _ c.loop-other-test.true)

pub loop-other-preserved : goal.loop-other-preserved
loop-other-preserved c =
    flat_more c.args.column.now.subject (above_label c.args.column.now c.args.row) c.members-other-items.result.now
    c.loop-other.other-index _ _ _ _
    (slice_get-get_or c.members-other-items.result.now c.loop-other.other-index _ c.loop-other-test.true)
    c.loop-other.invariant c.in_ok-push_above.ensures

pub returns : goal.returns
unfolding above_labels
returns c =
    rw (← c.members-other-items.ensures)
    (flat_all c.args.column.now.subject (above_label c.args.column.now c.args.row) c.members-other-items.result.now
    c.loop-other.other-index _ _ c.loop-other-test.false c.loop-other.invariant)
