use Rattle.std.proofs.Common.{subst}
use Rattle.order_search.specs.Parts.{AreParts}
use Rattle.order_search.specs.Searches.{Subject}
use Rattle.order_search.proofs.PartNumbers.{are_parts}
use Rattle.order_search.proofs.subject.Subject.parts.Goals as goal

pub returns-in-Ok-new : goal.returns-in-Ok-new
returns-in-Ok-new c =
    subst (λ (s : Subject). AreParts s c.in-Ok-new.parts) c.self.view_is
    (are_parts _ c.self.inside.numbering c.in-Ok.ties c.in-Ok-new.parts c.self.invariant c.in-Ok.ensures c.in-Ok-new.ensures.ties
    c.in-Ok-new.ensures.parts)
