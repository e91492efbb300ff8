use Rattle.std.proofs.Common.{◌∙◌, length, ap, arith}
use Rattle.kept_items.proofs.Counted.{mapped_upto}
use Rattle.kept_items.proofs.Rows.{rows_of_copy}
use Rattle.kept_items.proofs.copies.map_rows.Goals as goal

pub map_row-requires-clause-places : goal.map_row-requires-clause-places
map_row-requires-clause-places c =
    ap (λ q. q.places) c.loop-row.invariant.kept
    ∙ (rows_of_copy c.args.marks.now c.args.at.now c.args.copy.now c.loop-row.row).places

pub map_row-requires-clause-marks : goal.map_row-requires-clause-marks
map_row-requires-clause-marks c =
    let end = c.len-row-end.ensures in
    let below = c.loop-row-test.true in
    let upto = mapped_upto c.args.copy.now c.loop-row.row (length c.args.target_rows.now) (omega (arith, end, below)) in
    omega (arith, upto, c.loop-row.invariant.next, c.requires.marks)
