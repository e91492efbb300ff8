use Rattle.std.proofs.Common.{[]}
use Rattle.forced_write.specs.Listing.{AreListed}
use Rattle.forced_write.proofs.listing.list_attribute.Given as goal

abbrev pub invariant-loop-row : goal.invariant-loop-row
invariant-loop-row l = AreListed l.closure.spec l.rel.0 l.attr.0 l.row [] l.pairs
