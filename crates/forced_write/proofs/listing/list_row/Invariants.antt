use Rattle.std.proofs.Common.{take}
use Rattle.forced_write.specs.Listing.{AreListed}
use Rattle.forced_write.proofs.listing.list_row.Given as goal

abbrev pub invariant-loop-later : goal.invariant-loop-later
invariant-loop-later l = AreListed l.closure.spec l.rel.0 l.attr.0 l.earlier.0 (take l.later-index l.later-items) l.pairs
