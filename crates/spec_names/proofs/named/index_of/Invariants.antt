use Rattle.std.proofs.Common.{◌≡◌, map, take}
use Rattle.spec_names.proofs.named.index_of.Given as goal

abbrev pub invariant-loop-item : goal.invariant-loop-item
invariant-loop-item g l = l.index ≡ map g.T.Named.named (take l.item-index l.items)
