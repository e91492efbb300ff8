use Rattle.currency_ask.proofs.Places.{copy_next}
use Rattle.currency_ask.proofs.ask.copied.Goals as goal

pub loop-place-preserved : goal.loop-place-preserved
loop-place-preserved c =
    copy_next c.args.rels.now c.loop-place.place c.get.result.now c.loop-place.copy c.push.new.self c.get.ensures
    c.loop-place.invariant c.in-Ok.ensures.ok
