use Rattle.log_replay.proofs.OneEnd.{follows_not_refused, one_refusal}
use Rattle.log_replay.proofs.laws.one_step_end.Goals as goal

pub returns-clause-follows : goal.returns-clause-follows
returns-clause-follows c = follows_not_refused

pub returns-clause-refused : goal.returns-clause-refused
returns-clause-refused c = one_refusal
