use Rattle.axiom_models.proofs.Answering as answering
use Rattle.axiom_models.proofs.Matching as matching
use Rattle.axiom_models.proofs.laws.answers_are_said.Goals as goal

pub returns-clause-said : goal.returns-clause-said
returns-clause-said c =
    answering.answers_are_said (matching.answers_have_matches
    (matching.matches_have_axioms c.laws_of_tuple_order.ensures.total c.laws_of_tuple_order.ensures.equal))

pub returns-clause-denied : goal.returns-clause-denied
returns-clause-denied c = answering.others_are_denied c.satisfied_by_instances.ensures
