use Rattle.rule_laws.proofs.Instances.{satisfied_both_ways}
use Rattle.rule_laws.proofs.satisfied.satisfied_by_instances.Goals as goal

pub returns : goal.returns
returns c = satisfied_both_ways
