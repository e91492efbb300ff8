use Rattle.log_axioms.specs.Posed.{passing}
use Rattle.axiom_laws.proofs.Truths.{decided, tests_decide}
use Rattle.axiom_laws.proofs.truth.literals_are_decided.Goals as goal

pub returns : goal.returns
returns c answers = decided (passing answers) (tests_decide answers)
