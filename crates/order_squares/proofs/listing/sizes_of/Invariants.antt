use Rattle.std.proofs.Common.{◌≡◌, map, take}
use Rattle.order_squares.specs.Squares.{size_of}
use Rattle.order_squares.proofs.listing.sizes_of.Given as goal

abbrev pub invariant-loop-square : goal.invariant-loop-square
invariant-loop-square l = l.sizes.items ≡ map (size_of l.groups) (take l.square-index l.squares)
