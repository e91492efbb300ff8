-- A marked place stood before.
use Rattle.question_bind.proofs.Again.{refused_again}
use Rattle.question_bind.proofs.same.each_once.Goals as goal

pub returns-then-index : goal.returns-then-index
returns-then-index c =
    refused_again c.args.count c.args.named.now c.args.places.now c.loop-i.i c.index-named-i.result
    c.loop-i.seen.items c.index.result.now c.at.result c.loop-i.invariant.marked c.loop-i.invariant.going
    c.loop-i-test.true c.requires.named c.requires.within c.index-named-i.is c.index.ensures c.if-index.true c.at.ensures
