use Rattle.axiom_agreement.proofs.Agreed.{steps_are_axioms, clauses_are_axioms, axioms_are_whole}
use Rattle.axiom_agreement.proofs.laws.axioms_agree.Goals as goal

pub returns-clause-made : goal.returns-clause-made
returns-clause-made c = steps_are_axioms

pub returns-clause-judged : goal.returns-clause-judged
returns-clause-judged c = clauses_are_axioms

pub returns-clause-whole : goal.returns-clause-whole
returns-clause-whole c = axioms_are_whole
