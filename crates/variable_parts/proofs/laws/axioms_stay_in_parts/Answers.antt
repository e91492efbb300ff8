use Rattle.variable_parts.proofs.AxiomCells.{axiom_in}
use Rattle.variable_parts.proofs.Staying.{steps_stay}
use Rattle.variable_parts.proofs.laws.axioms_stay_in_parts.Goals as goal

pub returns-clause-statements : goal.returns-clause-statements
returns-clause-statements c = axiom_in

pub returns-clause-steps : goal.returns-clause-steps
returns-clause-steps c = steps_stay
