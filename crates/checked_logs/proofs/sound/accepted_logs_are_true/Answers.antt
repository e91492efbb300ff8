use Rattle.checked_logs.proofs.Accepted.{accepted_are_true_by_test, empty_means_none}
use Rattle.checked_logs.proofs.sound.accepted_logs_are_true.Goals as goal

pub returns-clause-steps : goal.returns-clause-steps
returns-clause-steps c = accepted_are_true_by_test

pub returns-clause-none : goal.returns-clause-none
returns-clause-none c = empty_means_none
