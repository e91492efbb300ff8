use Rattle.std.proofs.Common.{◌∙◌}
use Rattle.log_write.specs.Pieces.{ended_step_pieces}
use Rattle.log_write.proofs.Writing.{step_more}
use Rattle.log_write.proofs.step.write_steps.Goals as goal

pub loop-place-preserved : goal.loop-place-preserved
loop-place-preserved c =
    step_more ended_step_pieces c.args.steps.now c.loop-place.place _ _ _ c.get.ensures
    c.in_ok-write_ended_step.ensures ∙ c.loop-place.invariant
