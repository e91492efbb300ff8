use Rattle.std.proofs.Common.{◌≡◌}
use Rattle.worked_rows.proofs.guessed.known.Given as goal

-- the variables stay as many
abbrev pub invariant-loop-var : goal.invariant-loop-var
invariant-loop-var l = l.trail.vars ≡ l.vars
