use Rattle.std.proofs.Common.{◌≡◌, ◌++◌, drop, map}
use Rattle.table_bind.specs.Columns.{text_column}
use Rattle.table_bind.proofs.columns.text_columns.Given as goal

abbrev pub invariant-loop-name : goal.invariant-loop-name
invariant-loop-name l = l.columns ++ map (λ name. text_column name.now) (drop l.name-index l.names) ≡ map
    (λ name. text_column name.now) l.names
