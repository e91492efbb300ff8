use Rattle.std.proofs.Common.{[]}
use Rattle.forced_write.specs.Listing.{AreListed}
use Rattle.forced_write.proofs.listing.list_relation.Given as goal

abbrev pub invariant-loop-attr : goal.invariant-loop-attr
invariant-loop-attr l = AreListed l.spec l.rel.0 l.attr 0 [] l.pairs
