use Rattle.std.proofs.Common.{◌≡◌, map, take}
use Rattle.currency_report.proofs.claim.tuples_of.Given as goal

abbrev pub invariant-loop-tree : goal.invariant-loop-tree
invariant-loop-tree l = l.tuples ≡ map (λ t. t.values) (take l.tree-index l.trees)
