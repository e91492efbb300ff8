use Rattle.std.proofs.lemmas.Option.{slice_get-get_or}
use Rattle.order_literals.specs.Said.{not_last}
use Rattle.order_clauses.specs.Listing.{alike_said, value_clause, members_of}
use Rattle.order_clauses.specs.Subject.{variables}
use Rattle.order_clauses.proofs.WantedClauses.{wanted_member, tells_more, tells_all}
use Rattle.order_clauses.proofs.wanted.value_lits.Goals as goal

pub put_alike-requires : goal.put_alike-requires
put_alike-requires c =
    wanted_member c.args.column.now c.args.ent.0 c.loop-other.other-index _ c.members-other-items.result.now
    c.requires.row.wanted c.members-other-items.ensures c.loop-other-test.true
    (slice_get-get_or c.members-other-items.result.now c.loop-other.other-index _ c.loop-other-test.true)

pub loop-other-preserved : goal.loop-other-preserved
loop-other-preserved c =
    let p = c.args.column.now in
    tells_more (variables p.subject) (not_last p.rel p.attr c.args.row) (alike_said p c.args.row)
    c.members-other-items.result.now c.loop-other.other-index _ _ _ _
    (slice_get-get_or c.members-other-items.result.now c.loop-other.other-index _ c.loop-other-test.true)
    c.loop-other.invariant c.in_ok-put_alike.ensures

pub returns : goal.returns
unfolding value_clause
returns c =
    let p = c.args.column.now in
    tells_all (variables p.subject) (not_last p.rel p.attr c.args.row) (alike_said p c.args.row)
    c.members-other-items.result.now (members_of p.relation c.args.ent.0) c.loop-other.other-index _ _
    c.loop-other-test.false c.members-other-items.ensures c.loop-other.invariant
