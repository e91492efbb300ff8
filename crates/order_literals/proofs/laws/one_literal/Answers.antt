use Rattle.order_literals.proofs.Sayings.{one_literal, one_said, says_within, negation_says}
use Rattle.order_literals.proofs.laws.one_literal.Goals as goal

pub returns-clause-one : goal.returns-clause-one
returns-clause-one c = one_literal

pub returns-clause-said : goal.returns-clause-said
returns-clause-said c = one_said

pub returns-clause-within : goal.returns-clause-within
returns-clause-within c = says_within

pub returns-clause-negation : goal.returns-clause-negation
returns-clause-negation c = negation_says
