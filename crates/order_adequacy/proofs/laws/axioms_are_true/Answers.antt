use Rattle.order_adequacy.specs.Laws.{passing}
use Rattle.order_adequacy.proofs.Adequacy as adequacy
use Rattle.order_adequacy.proofs.laws.axioms_are_true.Goals as goal

pub returns-clause-axioms : goal.returns-clause-axioms
returns-clause-axioms c answers = adequacy.axioms_are_true c.satisfied_by_instances.ensures (passing answers)

pub returns-clause-models : goal.returns-clause-models
returns-clause-models c answers = adequacy.truths_are_models c.satisfied_by_instances.ensures (passing answers)

pub returns-clause-truths : goal.returns-clause-truths
returns-clause-truths c = adequacy.truths_are_there
