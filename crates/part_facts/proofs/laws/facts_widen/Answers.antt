use Rattle.part_facts.proofs.Widened.{facts_widen}
use Rattle.part_facts.proofs.laws.facts_widen.Goals as goal

pub returns : goal.returns
returns c = facts_widen
