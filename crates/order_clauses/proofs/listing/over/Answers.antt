use Rattle.std.proofs.Common.{IfOk, subst, sym}
use Rattle.order_literals.specs.Numbers.{Numbers}
use Rattle.order_literals.specs.Statements.{statements_of}
use Rattle.order_clauses.specs.Clauses.{AreAxioms}
use Rattle.order_clauses.specs.Subject.{variables}
use Rattle.order_clauses.proofs.listing.over.Goals as goal

pub returns : goal.returns
unfolding variables
returns c =
    subst (λ (n : Numbers). IfOk c.listed.result (AreAxioms c.args.spec.now c.args.wanted.now.currents
    (statements_of n))) (sym c.requires.numbering) c.listed.ensures
