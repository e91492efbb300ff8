use Rattle.std.proofs.Common.{◌≡◌, length, subst, sym}
use Rattle.order_literals.specs.Numbers.{Numbers}
use Rattle.order_literals.specs.Statements.{statements_of}
use Rattle.order_search.specs.Kept.{vars_of}
use Rattle.order_search.specs.Searches.{Subject}
use Rattle.order_search.proofs.subject.Subject.start.Goals as goal

pub start-requires-clause-known : goal.start-requires-clause-known
start-requires-clause-known c =
    subst (λ (n : Numbers). length c.args.known.now.given ≡ length (statements_of n)) (sym c.self.invariant)
    (subst (λ (s : Subject). length c.args.known.now.given ≡ length (vars_of s)) (sym c.self.view_is) c.requires)
