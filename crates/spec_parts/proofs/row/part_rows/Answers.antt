use Rattle.part_laws.specs.Parts.{IsRowPart}
use Rattle.spec_parts.proofs.Pairing.{paired_at}
use Rattle.spec_parts.proofs.row.part_rows.Goals as goal

pub loop-row-preserved : goal.loop-row-preserved
loop-row-preserved c =
    paired_at (IsRowPart c.args.table.now c.args.entities.now) c.args.rows.now c.loop-row.row-index
    (record { 0 = 0 }) c.loop-row.list
    c.push.new.self
    c.in_ok-part_row.field-0 c.loop-row-test.true c.loop-row.invariant c.in_ok-part_row.ensures c.in_ok-push.ensures.ok
