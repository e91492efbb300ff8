use Rattle.current_tuples.proofs.OneInstance.{one_instance}
use Rattle.current_tuples.proofs.instance.one_current_instance.Goals as goal

pub returns : goal.returns
returns c = one_instance
