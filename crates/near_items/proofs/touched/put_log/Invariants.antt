use Rattle.std.proofs.Common.{◌<◌, All}
use Rattle.near_items.proofs.touched.put_log.Given as goal

abbrev pub invariant-loop-place : goal.invariant-loop-place
invariant-loop-place l = All (λ part. part < l.ties.count) l.parts.items
