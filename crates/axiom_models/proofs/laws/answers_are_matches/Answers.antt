use Rattle.axiom_models.proofs.Answering as answering
use Rattle.axiom_models.proofs.Matching as matching
use Rattle.axiom_models.proofs.laws.answers_are_matches.Goals as goal

pub returns-clause-matches : goal.returns-clause-matches
returns-clause-matches c = matching.matches_have_axioms c.laws_of_tuple_order.ensures.total c.laws_of_tuple_order.ensures.equal

pub returns-clause-answers : goal.returns-clause-answers
returns-clause-answers c = matching.answers_have_matches (returns-clause-matches c)

pub returns-clause-axioms : goal.returns-clause-axioms
returns-clause-axioms c = answering.axioms_make_answers
