use Rattle.std.proofs.Common.{◌∙◌, ap, subst, sym}
use Rattle.order_search.specs.Parts.{AreParts}
use Rattle.order_search.specs.Searches.{Subject}
use Rattle.order_search.proofs.PartNumbers.{numbered_parts, parted_is}
use Rattle.order_search.proofs.subject.Subject.parted.Goals as goal

pub new-requires-clause-ties : goal.new-requires-clause-ties
new-requires-clause-ties c =
    let are = subst (λ (s : Subject). AreParts s c.args.parts.now) (sym c.self.view_is) c.requires in
    are.ties

pub new-requires-clause-parts : goal.new-requires-clause-parts
new-requires-clause-parts c =
    let are = subst (λ (s : Subject). AreParts s c.args.parts.now) (sym c.self.view_is) c.requires in
    numbered_parts _ c.self.inside.numbering c.args.parts.now c.self.invariant are

pub returns : goal.returns
returns c =
    parted_is c.new.result c.args.self.now c.args.parts.now
    (c.new.ensures.spec ∙ ap (λ (s : Subject). s.spec) c.self.view_is)
    (c.new.ensures.wanted ∙ ap (λ (s : Subject). s.wanted) c.self.view_is) c.new.ensures.ties c.new.ensures.parts
