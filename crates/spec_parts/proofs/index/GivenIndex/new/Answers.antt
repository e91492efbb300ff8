use Rattle.std.proofs.Common.{◌≤◌, length, ap, arith}
use Rattle.spec_parts.specs.Index.{IsIndexed}
use Rattle.spec_parts.proofs.Indexing.{all_indexed}
use Rattle.spec_parts.proofs.Pairing.{paired_more, paired_end, read_item}
use Rattle.spec_parts.proofs.index.GivenIndex.new.Goals as goal

pub loop-relation-preserved : goal.loop-relation-preserved
loop-relation-preserved c =
    let relations = c.args.spec.now.relations in
    let items = c.relations-relation-items in
    paired_more IsIndexed relations c.loop-relation.relation-index c.loop-relation.lists c.push.new.self c.relation-item.result
    c.in_ok-pairs_of.field-0
    (read_item relations items.result.now c.loop-relation.relation-index c.relation-item.result items.ensures.value
    c.loop-relation-test.true c.relation-item.is)
    c.loop-relation.invariant c.in_ok-pairs_of.ensures c.in_ok-push.ensures.ok

pub returns : goal.returns
returns c =
    let relations = c.args.spec.now.relations in
    let items = c.relations-relation-items in
    let same = ap length items.ensures.value in
    let end : length relations ≤ c.loop-relation.relation-index = omega (arith, c.loop-relation-test.false, same) in
    all_indexed relations c.loop-relation.lists
    (paired_end IsIndexed relations c.loop-relation.relation-index c.loop-relation.lists end c.loop-relation.invariant)
