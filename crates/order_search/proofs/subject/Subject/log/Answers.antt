use Rattle.std.proofs.Common.{subst}
use Rattle.order_clauses.specs.Clauses.{AreAxioms}
use Rattle.order_literals.specs.Numbers.{Numbers}
use Rattle.order_literals.specs.Statements.{statements_of}
use Rattle.order_search.specs.Kept.{vars_of}
use Rattle.order_search.specs.Searches.{Subject}
use Rattle.order_search.proofs.subject.Subject.log.Goals as goal

pub returns-clause-steps : goal.returns-clause-steps
returns-clause-steps c =
    subst (λ (s : Subject). AreAxioms s.spec s.wanted.currents (vars_of s) c.in-Ok-clauses.steps) c.self.view_is
    (subst (λ (n : Numbers). AreAxioms c.self.inside.spec.now c.self.inside.wanted.currents (statements_of n)
    c.in-Ok-clauses.steps) c.self.invariant
    c.in-Ok-clauses.ensures)
