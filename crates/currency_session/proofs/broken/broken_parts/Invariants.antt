-- The parts so far are there.
use Rattle.std.proofs.Common.{◌<◌, All}
use Rattle.currency_session.proofs.broken.broken_parts.Given as goal

abbrev pub invariant-loop-asked : goal.invariant-loop-asked
invariant-loop-asked l = All (λ part. part < l.ties.count) l.parts.items
