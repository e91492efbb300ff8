use Rattle.part_laws.proofs.FactsKept.{pairs_are_kept, values_are_kept}
use Rattle.part_laws.proofs.laws.parts_keep_facts.Goals as goal

pub returns-clause-pairs : goal.returns-clause-pairs
returns-clause-pairs c = pairs_are_kept

pub returns-clause-values : goal.returns-clause-values
returns-clause-values c = values_are_kept
