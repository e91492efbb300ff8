use Rattle.std.proofs.Common.{IfOk, IfSome, subst, sym}
use Rattle.program_words.specs.Said.{said_of}
use Rattle.program_words.specs.declared.command.Command.{Command}
use Rattle.currency_cli.specs.Due.{IsDueFor}
use Rattle.currency_cli.specs.Printed.{IsPrinted}
use Rattle.trial_command.specs.Trial.{IsTrialDue}
use Rattle.currency_cli.proofs.TrialPrinted.{over_any, trial_printed}
use Rattle.currency_cli.proofs.commands.outcome_of.Goals as goal

pub returns-in-Trial-clause-due : goal.returns-in-Trial-clause-due
returns-in-Trial-clause-due g c determined =
    subst (λ (x : Command). IfSome (g.S.Shelf.texts c.args.shelf.now)
    (λ told. IsDueFor told (said_of x) c.try_generated.result)) (sym c.in-Trial.is)
    (over_any (g.S.Shelf.texts c.args.shelf.now) (IsTrialDue c.in-Trial.size c.try_generated.result)
    (c.try_generated.ensures.due determined))

pub returns-in-Trial-clause-printed : goal.returns-in-Trial-clause-printed
returns-in-Trial-clause-printed g c =
    subst (λ (x : Command). IfOk c.try_generated.result (λ d. IfSome (g.S.Shelf.texts c.args.shelf.now)
    (λ told. IsPrinted told (said_of x) d))) (sym c.in-Trial.is)
    (trial_printed (g.S.Shelf.texts c.args.shelf.now) c.in-Trial.size c.try_generated.result c.try_generated.ensures.due)
