use Rattle.std.proofs.Common.{[]}
use Rattle.forced_write.specs.Listing.{AreListed}
use Rattle.forced_write.proofs.listing.forced_pairs.Given as goal

abbrev pub invariant-loop-rel : goal.invariant-loop-rel
invariant-loop-rel l = AreListed l.spec l.rel 0 0 [] l.pairs
