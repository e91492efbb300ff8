use Rattle.std.proofs.Common.{◌≡◌, ◌+◌, take}
use Rattle.std.specs.List.{sum_by}
use Rattle.spec_limits.specs.Instances.{rule_instances}
use Rattle.spec_limits.proofs.instances.left_by_rules.Given as goal

abbrev pub invariant-loop-rule : goal.invariant-loop-rule
invariant-loop-rule l = l.left + sum_by (rule_instances l.spec.relations) (take l.rule-index l.spec.rules) ≡ l.fn.left
