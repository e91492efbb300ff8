use Rattle.std.proofs.Common.{arith}
use Rattle.order_clauses.specs.Listing.{first_labels, second_labels}
use Rattle.order_clauses.proofs.Adding.{below_none, below_more, below_all}
use Rattle.order_clauses.proofs.Threes.{three_at_places, first_added}
use Rattle.order_clauses.proofs.three_rows.with_second.Goals as goal

pub loop-first-init : goal.loop-first-init
loop-first-init c =
    below_none c.args.column.now.subject (first_labels c.args.column.now c.args.members.now c.args.third
    c.args.second) c.args.steps.now

pub both_ways-requires : goal.both_ways-requires
both_ways-requires c =
    three_at_places c.args.column.now.relation c.args.ent.0 c.args.members.now c.loop-first.first c.args.second c.args.third
    c.requires.members c.loop-first-test.true c.requires.second c.requires.third

pub loop-first-preserved : goal.loop-first-preserved
loop-first-preserved c =
    let p = c.args.column.now in
    below_more p.subject (first_labels p c.args.members.now c.args.third c.args.second) c.loop-first.first _ _ _
    c.loop-first.invariant
    (first_added p c.args.members.now c.loop-first.first c.args.second c.args.third _ _ c.loop-first-test.true
    c.requires.second c.requires.third c.in_ok-both_ways.ensures)

pub returns : goal.returns
unfolding second_labels
returns c =
    let p = c.args.column.now in
    below_all p.subject (first_labels p c.args.members.now c.args.third c.args.second) c.loop-first.first _ _ _ (omega arith)
    c.loop-first.invariant
