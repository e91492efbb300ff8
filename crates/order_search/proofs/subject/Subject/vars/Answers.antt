use Rattle.std.proofs.Common.{◌≡◌, length, subst}
use Rattle.order_literals.specs.Numbers.{Numbers}
use Rattle.order_literals.specs.Statements.{statements_of}
use Rattle.order_search.specs.Kept.{vars_of}
use Rattle.order_search.specs.Searches.{Subject}
use Rattle.order_search.proofs.subject.Subject.vars.Goals as goal

pub returns-clause-value : goal.returns-clause-value
returns-clause-value c =
    subst (λ (s : Subject). c.vars.result ≡ length (vars_of s)) c.self.view_is
    (subst (λ (n : Numbers). c.vars.result ≡ length (statements_of n)) c.self.invariant c.vars.ensures.value)
