use Rattle.refutation_log.specs.Steps.{clauses_of}
use Rattle.last_rows.proofs.Looked.{units_more}
use Rattle.last_rows.proofs.looks.are_units.Goals as goal

pub loop-row-preserved : goal.loop-row-preserved
loop-row-preserved c =
    units_more c.args.list.now (clauses_of c.args.earlier.now) c.loop-row.row
    c.loop-row.invariant (c.is_unit.ensures c.if-not-is_unit.false)
