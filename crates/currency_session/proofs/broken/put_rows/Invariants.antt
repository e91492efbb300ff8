-- The parts so far are there.
use Rattle.std.proofs.Common.{◌<◌, All}
use Rattle.currency_session.proofs.broken.put_rows.Given as goal

abbrev pub invariant-loop-copied : goal.invariant-loop-copied
invariant-loop-copied l = All (λ part. part < l.ties.count) l.parts.items
