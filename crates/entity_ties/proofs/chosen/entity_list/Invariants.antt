use Rattle.std.proofs.Common.{◌≡◌, map, take}
use Rattle.entity_ties.proofs.chosen.entity_list.Given as goal

abbrev pub invariant-loop-number : goal.invariant-loop-number
invariant-loop-number l = map (λ ent. ent.0) l.entities ≡ take l.number-index l.numbers
