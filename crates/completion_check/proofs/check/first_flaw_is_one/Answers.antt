use Rattle.completion_check.proofs.OneFlaw.{one_flaw}
use Rattle.completion_check.proofs.check.first_flaw_is_one.Goals as goal

pub returns : goal.returns
returns c = one_flaw
