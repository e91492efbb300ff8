use Rattle.posed_facts.proofs.FactLaw.{facts_asked}
use Rattle.posed_facts.proofs.laws.facts_are_asked.Goals as goal

pub returns : goal.returns
returns c = facts_asked
