use Rattle.spec_parts.proofs.Searched.{found, missed, rows_rise, same_number}
use Rattle.spec_parts.proofs.place.place_of_row.Goals as goal

pub unreachable-requires : goal.unreachable-requires
unreachable-requires c =
    missed (λ x. x.0) c.args.rows.now c.args.row c.in-Err.field-0 (rows_rise c.args.rows.now c.requires.ascend)
    c.in-Err.ensures.position
    c.requires.listed

pub returns : goal.returns
returns c = found (λ x. x.0) c.args.rows.now c.args.row same_number c.in-Ok.place c.in-Ok.ensures.bound c.in-Ok.ensures.ok
