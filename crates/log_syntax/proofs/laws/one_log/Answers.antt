use Rattle.log_syntax.proofs.WholeLogs as laws
use Rattle.log_syntax.proofs.laws.one_log.Goals as goal

pub returns-clause-one_tree : goal.returns-clause-one_tree
returns-clause-one_tree c = laws.one_log

pub returns-clause-one_refusal : goal.returns-clause-one_refusal
returns-clause-one_refusal c = laws.one_refusal

pub returns-clause-not_both : goal.returns-clause-not_both
returns-clause-not_both c = laws.not_both
