use Rattle.log_laws.proofs.CountedSteps.{counted_few}
use Rattle.log_laws.proofs.few.counted_steps_are_few.Goals as goal

pub returns : goal.returns
returns c = counted_few
