use Rattle.std.proofs.Common.{◌≡◌, ◌++◌}
use Rattle.order_squares.specs.Squares.{column_of}
use Rattle.order_squares.proofs.listing.add_column.Given as goal

abbrev pub invariant-loop-ent : goal.invariant-loop-ent
invariant-loop-ent l = l.squares.items ≡ l.initial.squares.items ++ column_of l.rel.0 l.attr.0 l.ent
