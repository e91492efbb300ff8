use Rattle.std.proofs.Common.{◌≡◌, Some, map, slice_set, take}
use Rattle.match_candidates.proofs.branching.with_each.Given as goal

abbrev pub invariant-loop-value : goal.invariant-loop-value
invariant-loop-value l = l.ways.items ≡ map (λ v. slice_set l.values l.var (Some v.now)) (take l.value-index l.list)
