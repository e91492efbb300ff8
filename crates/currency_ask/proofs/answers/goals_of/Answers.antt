use Rattle.currency_ask.specs.declared.goal.Goal.TheVariants.{Answer}
use Rattle.currency_ask.proofs.Places.{map_next}
use Rattle.currency_ask.proofs.answers.goals_of.Goals as goal

pub loop-at-preserved : goal.loop-at-preserved
loop-at-preserved c =
    map_next Answer c.args.places.now c.loop-at.at c.get.result.now c.loop-at.goals c.push.new.self c.get.ensures
    c.loop-at.invariant c.in-Ok.ensures.ok
