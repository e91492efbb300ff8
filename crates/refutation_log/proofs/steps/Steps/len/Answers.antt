use Rattle.std.proofs.Common.{◌∙◌, length, sym, ap}
use Rattle.refutation_log.proofs.KeptSteps.{length-steps_from}
use Rattle.refutation_log.proofs.steps.Steps.len.Goals as goal

pub returns : goal.returns
returns c =
    c.len.ensures ∙ c.self.inside.heads.ok.0
    ∙ sym (length-steps_from 0 c.self.inside.heads.items c.self.inside.lists) ∙ ap length c.self.view_is
