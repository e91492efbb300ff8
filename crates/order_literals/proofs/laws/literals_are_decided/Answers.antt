use Rattle.order_literals.proofs.Deciding.{literal_decided, literals_exclude}
use Rattle.order_literals.proofs.laws.literals_are_decided.Goals as goal

pub returns-clause-decided : goal.returns-clause-decided
returns-clause-decided c = literal_decided

pub returns-clause-exclude : goal.returns-clause-exclude
returns-clause-exclude c = literals_exclude
