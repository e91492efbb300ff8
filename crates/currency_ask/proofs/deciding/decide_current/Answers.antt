use Rattle.currency_ask.proofs.Countered.{current_decided}
use Rattle.currency_ask.proofs.deciding.decide_current.Goals as goal

pub returns-clause-outcome : goal.returns-clause-outcome
returns-clause-outcome g c =
    current_decided c.args.search.now c.bring_current.new.search c.decide-outcome.new.self c.args.place c.current-lit.result
    c.decide-outcome.new.budget c.is_search-2.ensures
    c.bring_current.ensures.gone c.decide-outcome.ensures.gone c.requires c.current-lit.ensures.says c.decide-outcome.result
    c.decide-outcome.ensures.found
