use Rattle.log_axioms.specs.Posed.{posed_by}
use Rattle.log_checker.proofs.OneVerdict.{accepted_has_no_fault, one_first_fault}
use Rattle.log_checker.proofs.laws.one_verdict_on_a_log.Goals as goal

pub returns-clause-accepted : goal.returns-clause-accepted
returns-clause-accepted c s query log = accepted_has_no_fault s (posed_by query log) log.statements log.steps

pub returns-clause-refused : goal.returns-clause-refused
returns-clause-refused c s query log = one_first_fault s (posed_by query log) log.statements log.steps
