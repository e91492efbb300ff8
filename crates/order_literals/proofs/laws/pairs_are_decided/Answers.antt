use Rattle.order_literals.proofs.Deciding.{pair_decided, pair_exclude, said_of_pairs}
use Rattle.order_literals.proofs.laws.pairs_are_decided.Goals as goal

pub returns-clause-decided : goal.returns-clause-decided
returns-clause-decided c = pair_decided

pub returns-clause-exclude : goal.returns-clause-exclude
returns-clause-exclude c = pair_exclude

pub returns-clause-pairs : goal.returns-clause-pairs
returns-clause-pairs c = said_of_pairs
