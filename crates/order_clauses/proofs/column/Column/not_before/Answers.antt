use Rattle.order_literals.specs.Said.{before}
use Rattle.order_clauses.specs.Subject.{variables}
use Rattle.order_clauses.proofs.Saying.{says_not}
use Rattle.order_clauses.proofs.column.Column.not_before.Goals as goal

pub returns : goal.returns
returns c =
    let p = c.args.self.now in
    says_not (variables p.subject) c.before-2.result c.negated.result (before p.rel p.attr c.args.earlier c.args.later)
    c.negated.ensures c.before-2.ensures
