use Rattle.std.proofs.Common.{sym, ◌∙◌}
use Rattle.log_checker.proofs.Numbering.{numbered_by_test}
use Rattle.log_checker.proofs.numbered.is_numbered.Goals as goal

pub returns-clause-numbered : goal.returns-clause-numbered
returns-clause-numbered c told = numbered_by_test c.args.log.now.statements c.args.log.now.steps
    (sym c.are_numbered.ensures ∙ told)
