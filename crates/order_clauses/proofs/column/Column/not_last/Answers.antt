use Rattle.order_literals.specs.Said.{last}
use Rattle.order_clauses.specs.Subject.{variables}
use Rattle.order_clauses.proofs.Saying.{says_not}
use Rattle.order_clauses.proofs.column.Column.not_last.Goals as goal

pub returns : goal.returns
returns c =
    let p = c.args.self.now in
    says_not (variables p.subject) c.last.result c.negated.result (last p.rel p.attr c.args.row) c.negated.ensures c.last.ensures
