use Rattle.std.proofs.Common.{ap, arith, length}
use Rattle.std.proofs.lemmas.Option.{slice_get_within}
use Rattle.minimal_items.proofs.Once.{items_once}
use Rattle.minimal_items.proofs.laws.items_stand_once.Goals as goal

pub returns : goal.returns
returns c = items_once c.args.spec.now
    (λ rel r at.
    let below = slice_get_within c.args.spec.now.relations rel r at in
    let many = ap length c.relations-relation-items.ensures.value in
    c.loop-relation.invariant.ascend rel r
    (let end = c.loop-relation-test.false in omega (arith, below, many, end))
    at)
