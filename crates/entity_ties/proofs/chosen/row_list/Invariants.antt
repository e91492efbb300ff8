use Rattle.std.proofs.Common.{◌≡◌, map, take}
use Rattle.entity_ties.proofs.chosen.row_list.Given as goal

abbrev pub invariant-loop-number : goal.invariant-loop-number
invariant-loop-number l = map (λ row. row.0) l.rows ≡ take l.number-index l.numbers
