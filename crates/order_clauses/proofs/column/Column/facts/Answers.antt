use Rattle.std.proofs.Common.{subst}
use Rattle.order_clauses.specs.Subject.{IsAttribute}
use Rattle.order_clauses.proofs.column.Column.facts.Goals as goal

pub returns : goal.returns
returns c = subst IsAttribute c.self.view_is c.self.invariant
