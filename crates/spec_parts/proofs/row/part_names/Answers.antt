use Rattle.spec_parts.specs.Steps.{IsNamePart}
use Rattle.spec_parts.proofs.Pairing.{paired_at}
use Rattle.spec_parts.proofs.row.part_names.Goals as goal

pub loop-entity-preserved : goal.loop-entity-preserved
loop-entity-preserved c =
    paired_at (IsNamePart c.args.names.now) c.args.entities.now c.loop-entity.entity-index (record { 0 = 0 }) c.loop-entity.list
    c.push.new.self
    c.in_ok-name_of.field-0 c.loop-entity-test.true c.loop-entity.invariant c.in_ok-name_of.ensures c.in_ok-push.ensures.ok
