use Rattle.std.proofs.Common.{◌≡◌, take}
use Rattle.match_candidates.proofs.listing.indexed_tables.Given as goal

abbrev pub invariant-loop-relation : goal.invariant-loop-relation
invariant-loop-relation l = l.indexed.items ≡ take l.relation l.tables
