use Rattle.std.proofs.Common.{◌≡◌, ◌++◌, map}
use Rattle.std.specs.Map.Iter.{deref}
use Rattle.spec_items.specs.declared.item.Item.TheVariants as item
use Rattle.spec_items.proofs.listing.put_pairs.Given as goal

abbrev pub invariant-loop-pair : goal.invariant-loop-pair
invariant-loop-pair l = l.items ≡ l.fn.items ++ map (λ p. item.Given l.rel p) (map deref l.yielded)
