use Rattle.std.proofs.Common.{arith}
use Rattle.order_search.proofs.Rows.{front_there}
use Rattle.order_search.proofs.linked.front_of.Goals as goal

pub returns : goal.returns
returns c = front_there c.args.subject.now c.args.list c.args.rows.now c.requires (record { 0 = 0 })
    (omega (arith, c.if-rows-lt3.false))
