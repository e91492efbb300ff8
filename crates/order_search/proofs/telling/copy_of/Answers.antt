use Rattle.std.proofs.Common.{arith}
use Rattle.order_search.proofs.PartMade.{copy_all}
use Rattle.order_search.proofs.telling.copy_of.Goals as goal

pub returns : goal.returns
returns c =
    copy_all c.args.truths.now c.loop-var.copy c.loop-var.var c.loop-var.invariant.many
    (omega (arith, c.loop-var-test.false, c.vars-var-end.ensures)) c.loop-var.invariant.same
