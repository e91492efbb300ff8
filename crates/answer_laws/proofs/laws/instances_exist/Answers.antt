use Rattle.answer_laws.proofs.Instances.{some_instance, one_instance}
use Rattle.answer_laws.proofs.laws.instances_exist.Goals as goal

pub returns-clause-exist : goal.returns-clause-exist
returns-clause-exist c = some_instance

pub returns-clause-one : goal.returns-clause-one
returns-clause-one c = one_instance
