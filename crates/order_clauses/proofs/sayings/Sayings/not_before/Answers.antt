use Rattle.order_literals.specs.Said.{before}
use Rattle.order_clauses.specs.Subject.{variables}
use Rattle.order_clauses.proofs.Saying.{says_not}
use Rattle.order_clauses.proofs.sayings.Sayings.not_before.Goals as goal

pub returns : goal.returns
returns c =
    says_not (variables c.args.self.now) c.before-2.result c.negated.result (before c.args.rel c.args.attr c.args.earlier c.args.later)
    c.negated.ensures c.before-2.ensures
