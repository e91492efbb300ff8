use Rattle.spec_bind.proofs.Steps.{statement_step}
use Rattle.spec_bind.proofs.statement.bind_statement.Goals as goal

pub returns-in-Relation-clause-step : goal.returns-in-Relation-clause-step
returns-in-Relation-clause-step g c =
    λ determined. statement_step (g.S.Shelf.texts c.args.shelf.now) c.args.bound c.args.statement.now _
    c.bind_declaration.result c.in-Relation.is (c.bind_declaration.ensures.step determined)
