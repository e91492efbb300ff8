use Rattle.std.proofs.Common.{◌≡◌, take}
use Rattle.match_candidates.proofs.listing.tables_of.Given as goal

abbrev pub invariant-loop-relation : goal.invariant-loop-relation
invariant-loop-relation l = l.tables.items ≡ take l.relation-index l.relations
