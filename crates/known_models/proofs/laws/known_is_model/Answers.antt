use Rattle.known_models.proofs.Whole as whole
use Rattle.known_models.proofs.laws.known_is_model.Goals as goal

pub returns-clause-ranks : goal.returns-clause-ranks
returns-clause-ranks c = whole.known_ranks c.pairs_are_decided.ensures.exclude c.pairs_are_decided.ensures.pairs

pub returns-clause-model : goal.returns-clause-model
returns-clause-model c =
    whole.known_is_model c.pairs_are_decided.ensures.exclude c.pairs_are_decided.ensures.pairs
    c.models_are_completions.ensures.completions

pub returns-clause-axioms : goal.returns-clause-axioms
returns-clause-axioms c =
    whole.known_makes_true c.satisfied_by_instances.ensures c.pairs_are_decided.ensures.exclude
    c.pairs_are_decided.ensures.pairs c.models_are_completions.ensures.completions
