use Rattle.axiom_agreement.proofs.Agreed.{orders_agree, values_agree}
use Rattle.axiom_agreement.proofs.laws.literals_agree.Goals as goal

pub returns-clause-orders : goal.returns-clause-orders
returns-clause-orders c = orders_agree

pub returns-clause-values : goal.returns-clause-values
returns-clause-values c = values_agree
