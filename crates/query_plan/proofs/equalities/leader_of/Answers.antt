use Rattle.query_plan.proofs.Leading.{led_first}
use Rattle.query_plan.proofs.equalities.leader_of.Goals as goal

pub returns-in-Some : goal.returns-in-Some
returns-in-Some c = led_first c.args.equalities.now c.loop-equality.equality-index c.equality-item.result c.args.var c.in-Some.led
    c.loop-equality-test.true c.equality-item.is c.in-Some.ensures
