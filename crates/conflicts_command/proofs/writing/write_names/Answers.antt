use Rattle.std.proofs.Common.{◌∙◌}
use Rattle.conflicts_command.specs.Text.{entity_line}
use Rattle.conflicts_command.proofs.Written.{one_more}
use Rattle.conflicts_command.proofs.writing.write_names.Goals as goal

pub loop-entity-preserved : goal.loop-entity-preserved
loop-entity-preserved c =
    one_more (entity_line c.args.relation.now) c.args.entities.now c.loop-entity.entity-index c.entity-item.result _ _
    c.loop-entity-test.true c.entity-item.is c.in_ok-write_entity.ensures
    ∙ c.loop-entity.invariant
