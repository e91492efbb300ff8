use Rattle.edit_checks.proofs.Edits.{added_rule}
use Rattle.edit_checks.proofs.rules.keeps_rule.Goals as goal

pub returns-in-Ok : goal.returns-in-Ok
returns-in-Ok c =
    λ is.
    added_rule c.args.spec.now c.args.rule.now c.args.completion.now c.requires.consistent (c.in-Ok.ensures.yes is)
