use Rattle.std.proofs.Common.{◌<◌, All}
use Rattle.near_items.proofs.touched.put_pairs.Given as goal

abbrev pub invariant-loop-asked : goal.invariant-loop-asked
invariant-loop-asked l = All (λ part. part < l.ties.count) l.parts.items
