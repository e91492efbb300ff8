use Rattle.order_squares.proofs.Columns.{AreListedTo}
use Rattle.order_squares.proofs.listing.list_squares.Given as goal

abbrev pub invariant-loop-rel : goal.invariant-loop-rel
invariant-loop-rel l = AreListedTo l.relations l.starts l.squares.items l.rel
