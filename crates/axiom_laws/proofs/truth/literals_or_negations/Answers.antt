use Rattle.log_axioms.specs.Posed.{passing}
use Rattle.axiom_laws.proofs.Truths.{negated, other, tests_decide}
use Rattle.axiom_laws.proofs.truth.literals_or_negations.Goals as goal

pub returns-clause-exclude : goal.returns-clause-exclude
returns-clause-exclude c answers = negated (passing answers)

pub returns-clause-complement : goal.returns-clause-complement
returns-clause-complement c answers = other (passing answers) (tests_decide answers)
