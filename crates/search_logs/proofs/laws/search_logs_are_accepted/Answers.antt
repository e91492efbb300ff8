use Rattle.search_logs.proofs.Searched.{accepted, numbered, in_place}
use Rattle.search_logs.proofs.laws.search_logs_are_accepted.Goals as goal

pub returns-clause-accepted : goal.returns-clause-accepted
returns-clause-accepted c s posed wanted log within is = accepted s posed wanted log within is c.axioms_agree.ensures.made

pub returns-clause-in_place : goal.returns-clause-in_place
returns-clause-in_place c s posed wanted log goals within is few goals_in =
    let statements = c.statements_are_few.ensures in
    (numbered s posed wanted log within is statements few, in_place s posed wanted log within is statements few goals goals_in)
