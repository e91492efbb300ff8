use Rattle.rule_bind.proofs.Reading.{rule_reads}
use Rattle.rule_bind.proofs.bind.bind_rule.Goals as goal

pub returns-in-Err-clause-reads : goal.returns-in-Err-clause-reads
returns-in-Err-clause-reads c = rule_reads c.args.spec.now c.args.tree.now c.in-Err.fault c.in-Err.ensures.due
