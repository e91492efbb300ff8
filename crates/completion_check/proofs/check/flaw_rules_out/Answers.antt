use Rattle.completion_check.proofs.OneFlaw.{rules_out}
use Rattle.completion_check.proofs.check.flaw_rules_out.Goals as goal

pub returns : goal.returns
returns c = rules_out
