use Rattle.std.proofs.Common.{IfOk, subst, sym}
use Rattle.order_literals.specs.Numbers.{Numbers}
use Rattle.order_literals.specs.Statements.{statements_of}
use Rattle.order_clauses.specs.Clauses.{AreTransitive}
use Rattle.order_clauses.specs.Subject.{variables}
use Rattle.order_clauses.proofs.three_rows.over.Goals as goal

pub returns : goal.returns
unfolding variables
returns c =
    subst (λ (n : Numbers). IfOk c.of_attribute.result (AreTransitive c.args.spec.now (statements_of n) c.args.rel
    c.args.attr c.args.ent.0)) (sym c.requires.numbering)
    c.of_attribute.ensures
