use Rattle.currency_ask.proofs.Countered.{pair_decided}
use Rattle.currency_ask.proofs.deciding.decide_pair.Goals as goal

pub returns-clause-outcome : goal.returns-clause-outcome
returns-clause-outcome g c =
    pair_decided c.args.search.now c.bring_pair.new.search c.decide-outcome.new.self c.args.asked c.before-lit.result
    c.decide-outcome.new.budget c.is_search-2.ensures
    c.bring_pair.ensures.gone c.decide-outcome.ensures.gone c.requires.pair c.before-lit.ensures.says
    c.decide-outcome.result c.decide-outcome.ensures.found
