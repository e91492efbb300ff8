use Rattle.std.proofs.Common.{map, take}
use Rattle.match_candidates.specs.Tables.{AreOfRows}
use Rattle.match_candidates.proofs.relation_table.values_of.Given as goal

abbrev pub invariant-loop-row : goal.invariant-loop-row
invariant-loop-row l = AreOfRows l.rows (take l.row-index l.members) l.attr (map (λ v. v.now) l.list.items)
