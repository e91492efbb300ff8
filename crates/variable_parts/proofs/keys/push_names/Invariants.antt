use Rattle.std.proofs.Common.{◌≡◌, ◌++◌, map}
use Rattle.value_names.specs.Names.{firsts_of, names_of}
use Rattle.variable_parts.specs.Told.{row_key, rows_in}
use Rattle.variable_parts.proofs.BlockKeys.{names_left}
use Rattle.variable_parts.proofs.keys.push_names.Given as goal

abbrev pub invariant-loop-row : goal.invariant-loop-row
invariant-loop-row l =
    l.keys.items ++ names_left l.source l.rel (names_of (rows_in l.source l.rel) l.attr.0) l.row
    ≡ l.initial.keys.items ++ map (row_key l.source l.rel) (firsts_of (names_of (rows_in l.source l.rel) l.attr.0))
