use Rattle.std.proofs.Common.{◌≡◌, take}
use Rattle.spec_parts.proofs.rule.put_rules.Given as goal

abbrev pub invariant-loop-rule : goal.invariant-loop-rule
invariant-loop-rule l = l.part ≡ record l.initial.part { rules = take l.rule-index l.whole.rules }
