use Rattle.edit_checks.proofs.Standing.{before_asked}
use Rattle.edit_checks.proofs.pairs.stands_before.Goals as goal

pub returns-then-not-can_be_asked-clause-no : goal.returns-then-not-can_be_asked-clause-no
returns-then-not-can_be_asked-clause-no c =
    λ _ before.
    c.can_be_asked.ensures.no c.if-not-can_be_asked.true
    (before_asked c.args.spec.now.relations c.args.completion.now c.args.asked c.requires.completion c.requires.pair before)
