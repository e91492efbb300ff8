use Rattle.std.proofs.Common.{◌≡◌, drop}
use Rattle.text_write.specs.Spacing.{writes_all}
use Rattle.log_write.specs.Pieces.{ended_step_pieces, many_pieces}
use Rattle.log_write.proofs.step.write_steps.Given as goal

abbrev pub invariant-loop-place : goal.invariant-loop-place
invariant-loop-place l =
    writes_all l.into (many_pieces ended_step_pieces (drop l.place l.steps)) ≡ writes_all l.initial.into
    (many_pieces ended_step_pieces l.steps)
