use Rattle.order_adequacy.specs.Laws.{passing}
use Rattle.order_adequacy.proofs.Adequacy as adequacy
use Rattle.order_adequacy.proofs.laws.models_are_completions.Goals as goal

pub returns-clause-completions : goal.returns-clause-completions
returns-clause-completions c = adequacy.models_are_completions c.satisfied_by_instances.ensures

pub returns-clause-one : goal.returns-clause-one
returns-clause-one c answers others = adequacy.models_are_one (passing answers) (passing others)

pub returns-clause-ranked : goal.returns-clause-ranked
returns-clause-ranked c answers = adequacy.truths_rank (passing answers)

pub returns-clause-rankings : goal.returns-clause-rankings
returns-clause-rankings c = adequacy.rankings_are_one
