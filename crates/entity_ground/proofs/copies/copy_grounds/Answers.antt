use Rattle.entity_ground.specs.Parts.{ArePaired}
use Rattle.entity_ground.proofs.Whole.{zip_more}
use Rattle.entity_ground.proofs.copies.copy_grounds.Goals as goal

pub loop-copy-preserved : goal.loop-copy-preserved
loop-copy-preserved c =
    zip_more (ArePaired c.args.relations.now) c.args.copies.now c.loop-copy.all c.push.new.self
    c.loop-copy.copy-index c.copy-item.result c.in-Ok.pairs
    c.loop-copy-test.true c.copy-item.is c.loop-copy.invariant c.in-Ok.ensures c.in-Ok-push.ensures.ok
