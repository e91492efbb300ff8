use Rattle.current_claims.proofs.Differing.{difference, no_difference, none_so_far}
use Rattle.current_claims.proofs.difference.first_difference.Goals as goal

pub returns-in-Some-clause-some : goal.returns-in-Some-clause-some
returns-in-Some-clause-some c =
    let place = c.in-Some.place in
    difference c.args.spec.now.relations c.args.rels.now c.as_slice-rel-items.result.now c.args.first.now
    c.args.second.now c.loop-rel.rel-index
    (record { 0 = 0 }) place.rel place.attr place.ent c.requires.rels c.as_slice-rel-items.ensures
    c.loop-rel-test.true c.in-Some.ensures.rel
    c.in-Some.ensures.some

pub loop-rel-preserved : goal.loop-rel-preserved
loop-rel-preserved c =
    none_so_far c.args.spec.now.relations c.args.rels.now c.as_slice-rel-items.result.now c.args.first.now
    c.args.second.now c.loop-rel.rel-index
    (record { 0 = 0 }) c.as_slice-rel-items.ensures c.loop-rel-test.true c.in_default.ensures.none c.loop-rel.invariant

pub returns-clause-none : goal.returns-clause-none
returns-clause-none c =
    no_difference c.args.spec.now.relations c.args.rels.now c.as_slice-rel-items.result.now c.args.first.now
    c.args.second.now c.loop-rel.rel-index
    c.as_slice-rel-items.ensures c.loop-rel-test.false c.loop-rel.invariant
