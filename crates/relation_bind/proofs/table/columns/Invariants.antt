use Rattle.std.proofs.Common.{◌≡◌, ◌++◌, drop, map}
use Rattle.relation_bind.specs.Relations.{attr_column, columns_of}
use Rattle.relation_bind.proofs.table.columns.Given as goal

abbrev pub invariant-loop-attr : goal.invariant-loop-attr
invariant-loop-attr l = l.columns ++ map attr_column (drop l.attr-index l.attr-items) ≡ columns_of l.declaration
