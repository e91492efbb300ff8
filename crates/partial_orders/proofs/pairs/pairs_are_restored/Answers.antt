use Rattle.partial_orders.proofs.TakenPairs.{taken_again, put_again}
use Rattle.partial_orders.proofs.pairs.pairs_are_restored.Goals as goal

pub returns-clause-added : goal.returns-clause-added
returns-clause-added c = taken_again

pub returns-clause-taken : goal.returns-clause-taken
returns-clause-taken c = put_again
