use Rattle.currency_ask.proofs.Countered.{decided_more, decided_proved, failed_after}
use Rattle.currency_ask.proofs.deciding.decide_all.Goals as goal

pub loop-place-preserved : goal.loop-place-preserved
loop-place-preserved g c =
    decided_more c.args.search.now c.loop-place.search c.decide.new.search c.args.goals.now c.loop-place.place
    c.loop-place.steps c.push.new.self c.get.result.now
    c.in-Ok-Proved.step c.loop-place.units c.decide.new.units _ c.loop-place.invariant c.in-Ok-Proved.ensures.gone
    c.in-Ok-Proved.ensures.units
    (decided_proved c.decide.new.search c.get.result.now c.decide.new.units c.in-Ok-Proved.field-0 c.in-Ok-Proved.step
    c.in-Ok-Proved.field-0-is
    c.in-Ok-Proved.ensures.outcome) c.get.ensures c.in-Ok-push.ensures.ok

pub returns-in-Ok-Model-clause-outcome : goal.returns-in-Ok-Model-clause-outcome
returns-in-Ok-Model-clause-outcome g c =
    failed_after c.loop-place.search c.decide.new.search c.args.goals.now c.loop-place.place c.loop-place.steps
    c.get.result.now c.decide.new.units c.in-Ok-Model.field-0 _
    c.in-Ok-Model.completion c.in-Ok-Model.ensures.gone c.loop-place.invariant.2 c.get.ensures
    c.in-Ok-Model.field-0-is c.in-Ok-Model.ensures.outcome
