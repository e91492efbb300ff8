use Rattle.std.proofs.Common.{false, take}
use Rattle.match_candidates.specs.Found.{Adds}
use Rattle.match_candidates.specs.Meant.{IsMatchOf}
use Rattle.match_candidates.proofs.listing.collect.Given as goal

abbrev pub invariant-loop-place : goal.invariant-loop-place
invariant-loop-place l = Adds (IsMatchOf l.tables (take l.place l.disjuncts)) l.initial.found l.found false
