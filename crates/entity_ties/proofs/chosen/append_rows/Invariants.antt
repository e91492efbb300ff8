use Rattle.std.proofs.Common.{◌≡◌, ◌++◌, map, take}
use Rattle.entity_ties.proofs.chosen.append_rows.Given as goal

abbrev pub invariant-loop-row : goal.invariant-loop-row
invariant-loop-row l = l.rows.items ≡ l.fn.rows.items ++ map (λ row. row.0) (take l.row-index l.more)
