use Rattle.std.proofs.Common.{map, take}
use Rattle.match_candidates.specs.Tables.{HaveSame}
use Rattle.match_candidates.proofs.relation_table.without_repeats.Given as goal

abbrev pub invariant-loop-value : goal.invariant-loop-value
invariant-loop-value l = HaveSame (map (λ v. v.now) (take l.value-index l.values)) (map (λ v. v.now) l.once.items)
