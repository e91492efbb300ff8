use Rattle.std.proofs.Common.{◌≡◌, length}
use Rattle.order_squares.specs.Squares.{GoesOn}
use Rattle.order_squares.proofs.listing.add_squares.Given as goal

abbrev pub invariant-loop-attr : goal.invariant-loop-attr
invariant-loop-attr l = record {
  many : l.attr ≡ length l.column.items;
  goes : GoesOn l.relation l.rel.0 l.initial.squares.items l.column.items l.squares.items;
}
