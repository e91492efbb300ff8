use Rattle.variable_parts.proofs.Staying.{answers_none, disjoint, have_parts}
use Rattle.variable_parts.proofs.laws.variables_have_parts.Goals as goal

pub returns-clause-disjoint : goal.returns-clause-disjoint
returns-clause-disjoint c = disjoint

pub returns-clause-each : goal.returns-clause-each
returns-clause-each c = have_parts

pub returns-clause-answers : goal.returns-clause-answers
returns-clause-answers c = answers_none
