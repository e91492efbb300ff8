-- The literals so far are renumbered.
use Rattle.std.proofs.Common.{◌≡◌, map, take}
use Rattle.log_trim.specs.Trimmed.{renumbered_lit}
use Rattle.log_trim.specs.Marked.{is_marked}
use Rattle.log_trim.proofs.copies.renumber_lits.Given as goal

abbrev pub invariant-loop-lit : goal.invariant-loop-lit
invariant-loop-lit l = l.list ≡ map (renumbered_lit (is_marked l.vars)) (take l.lit-index l.lits)
