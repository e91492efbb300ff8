use Rattle.std.proofs.Common.{◌≡◌, ◌++◌, length, map}
use Rattle.value_names.specs.Names.{row_ids}
use Rattle.variable_parts.specs.Told.{row_key, rows_in}
use Rattle.variable_parts.proofs.BlockKeys.{rows_left}
use Rattle.variable_parts.proofs.keys.push_rows.Given as goal

abbrev pub invariant-loop-row : goal.invariant-loop-row
invariant-loop-row l =
    l.keys.items ++ rows_left l.source l.rel (length (rows_in l.source l.rel)) l.row
    ≡ l.initial.keys.items ++ map (row_key l.source l.rel) (row_ids (length (rows_in l.source l.rel)))
