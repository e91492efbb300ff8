-- The steps so far are copied, those that are kept.
use Rattle.std.proofs.Common.{◌≡◌, map, take}
use Rattle.log_trim.specs.Trimmed.{kept_of, renumbered_step}
use Rattle.log_trim.specs.Marked.{is_marked}
use Rattle.log_trim.proofs.copies.kept_steps.Given as goal

abbrev pub invariant-loop-place : goal.invariant-loop-place
invariant-loop-place l = l.list ≡ map (renumbered_step (is_marked l.kept) (is_marked l.vars))
    (kept_of (is_marked l.kept) (take l.place l.steps))
