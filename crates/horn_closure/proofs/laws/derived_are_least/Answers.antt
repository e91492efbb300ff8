use Rattle.horn_closure.proofs.LeastFacts.{among_least}
use Rattle.horn_closure.proofs.laws.derived_are_least.Goals as goal

pub returns : goal.returns
returns c h derived are slot among = among_least h derived are.each slot among
