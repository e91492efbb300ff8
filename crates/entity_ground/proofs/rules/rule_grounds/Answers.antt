use Rattle.entity_ground.specs.Parts.{AreListed}
use Rattle.entity_ground.proofs.Whole.{zip_more}
use Rattle.entity_ground.proofs.rules.rule_grounds.Goals as goal

pub loop-rule-preserved : goal.loop-rule-preserved
loop-rule-preserved c =
    zip_more (AreListed c.args.relations.now) c.args.rules.now c.loop-rule.all c.push.new.self c.loop-rule.rule-index
    c.rule-item.result c.in-Ok.grounds
    c.loop-rule-test.true c.rule-item.is c.loop-rule.invariant c.in-Ok.ensures c.in-Ok-push.ensures.ok
