use Rattle.std.proofs.Common.{◌≡◌, subst}
use Rattle.order_literals.specs.Numbers.{numbers_of}
use Rattle.order_clauses.specs.Subject.{Subject}
use Rattle.order_clauses.proofs.sayings.Sayings.numbering.Goals as goal

pub returns : goal.returns
returns c =
    subst (λ (s : Subject). c.self.inside.numbering.now ≡ numbers_of s.spec.relations s.wanted) c.self.view_is c.self.invariant
