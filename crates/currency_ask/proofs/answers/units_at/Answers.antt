use Rattle.currency_ask.specs.Answering.{IsProvedAt}
use Rattle.currency_ask.proofs.LeftAnswers.{units_more}
use Rattle.currency_ask.proofs.Places.{item_has}
use Rattle.currency_ask.proofs.answers.units_at.Goals as goal

pub unit_at-requires : goal.unit_at-requires
unit_at-requires c = item_has (IsProvedAt c.args.decisions.now) c.args.places.now c.requires c.loop-at.at _ c.get.ensures

pub loop-at-preserved : goal.loop-at-preserved
loop-at-preserved c =
    units_more c.args.decisions.now c.args.places.now c.loop-at.at c.get.result.now c.loop-at.units c.push.new.self _
    c.loop-at.invariant c.get.ensures c.unit_at.ensures c.in-Ok.ensures.ok
