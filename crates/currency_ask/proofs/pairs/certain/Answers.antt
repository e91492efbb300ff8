use Rattle.currency_ask.proofs.GoalFacts.{pairs_asked}
use Rattle.currency_ask.proofs.pairs.certain.Goals as goal

pub decide_all-requires-clause-goals : goal.decide_all-requires-clause-goals
decide_all-requires-clause-goals g c =
    pairs_asked c.args.spec.now c.args.search.spec c.args.search.wanted c.args.pairs.now c.unwrap_or.result
    c.in-Ok.goals c.requires.spec c.requires.asked
    c.in-Ok.ensures
