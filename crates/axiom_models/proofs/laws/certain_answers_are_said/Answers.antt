use Rattle.axiom_models.proofs.Answering as answering
use Rattle.axiom_models.proofs.Matching as matching
use Rattle.axiom_models.proofs.laws.certain_answers_are_said.Goals as goal

pub returns-clause-certain : goal.returns-clause-certain
returns-clause-certain c =
    answering.certain_answers_are_said c.satisfied_by_instances.ensures
    (answering.answers_are_said (matching.answers_have_matches
    (matching.matches_have_axioms c.laws_of_tuple_order.ensures.total c.laws_of_tuple_order.ensures.equal)))

pub returns-clause-said : goal.returns-clause-said
returns-clause-said c =
    answering.said_answers_are_certain c.satisfied_by_instances.ensures c.instances_exist.ensures.exist
    c.answers_in_are_decided.ensures
