use Rattle.std.proofs.Common.{◌≡◌, ◌/◌, ◌^◌, ◌++◌, ℕ, map, take, drop}
use Rattle.count_tree.proofs.tournament.divide_all.Given as goal

abbrev pub invariant-loop-count : goal.invariant-loop-count
invariant-loop-count l = l.counts ≡ map (λ (count : ℕ). count / 2 ^ l.power) (take l.count-index l.initial.counts)
    ++ drop l.count-index l.initial.counts
