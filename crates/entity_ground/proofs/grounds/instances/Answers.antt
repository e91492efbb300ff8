use Rattle.entity_ground.proofs.Whole.{rules_whole, copies_whole}
use Rattle.entity_ground.proofs.grounds.instances.Goals as goal

pub returns-clause-rules : goal.returns-clause-rules
returns-clause-rules c =
    let s = c.args.spec.now in
    let all = rw (c.relations-relations.ensures.value, c.rules.ensures.value) at c.in-Ok-rule_grounds.ensures in
    rules_whole s c.in-Ok-rule_grounds.rules c.relations-relations.ensures.facts c.rules.ensures.facts all

pub returns-clause-copies : goal.returns-clause-copies
returns-clause-copies c =
    let all = rw (c.relations-relations.ensures.value, c.copies.ensures.value) at c.in-Ok-copy_grounds.ensures in
    copies_whole c.args.spec.now c.in-Ok-copy_grounds.copies all
