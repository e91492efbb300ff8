use Rattle.copy_functions.proofs.TakenSources.{unmapped_again, mapped_again}
use Rattle.copy_functions.proofs.copy_map.sources_are_restored.Goals as goal

pub returns-clause-mapped : goal.returns-clause-mapped
returns-clause-mapped c = unmapped_again

pub returns-clause-unmapped : goal.returns-clause-unmapped
returns-clause-unmapped c = mapped_again
