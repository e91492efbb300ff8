use Rattle.std.proofs.Common.{◌≡◌, ◌++◌, drop}
use Rattle.spec_items.specs.Items.{rule_items}
use Rattle.spec_items.proofs.listing.put_rules.Given as goal

abbrev pub invariant-loop-rule : goal.invariant-loop-rule
invariant-loop-rule l = l.items ++ rule_items l.rule (drop l.rule l.rules) ≡ l.fn.items ++ rule_items 0 l.rules
