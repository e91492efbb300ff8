use Rattle.currency_ask.specs.declared.goal.Goal.TheVariants.{Current}
use Rattle.currency_ask.proofs.Places.{map_next}
use Rattle.currency_ask.proofs.currents.goals_of.Goals as goal

pub loop-place-preserved : goal.loop-place-preserved
loop-place-preserved c =
    map_next Current c.args.rows.now c.loop-place.place c.get.result.now c.loop-place.goals c.push.new.self
    c.get.ensures c.loop-place.invariant c.in-Ok.ensures.ok
