use Rattle.currency_ask.proofs.GoalFacts.{values_asked}
use Rattle.currency_ask.proofs.currents.claimed.Goals as goal

pub decide_all-requires-clause-goals : goal.decide_all-requires-clause-goals
decide_all-requires-clause-goals g c =
    values_asked c.args.spec.now c.args.search c.args.rels.now c.args.first c.in-Ok.values c.requires.spec
    c.requires.asked_for c.in-Ok.ensures
