use Rattle.std.proofs.Common.{◌<◌, length, subst, sym}
use Rattle.order_literals.specs.Numbers.{Numbers}
use Rattle.order_literals.specs.Statements.{statements_of}
use Rattle.order_search.specs.Kept.{vars_of}
use Rattle.order_search.specs.Searches.{Subject}
use Rattle.order_search.proofs.PartNumbers.{meant}
use Rattle.order_search.proofs.subject.Subject.answer_of.Goals as goal

pub meaning_of-requires : goal.meaning_of-requires
meaning_of-requires c =
    subst (λ (n : Numbers). c.args.var < length (statements_of n)) (sym c.self.invariant)
    (subst (λ (s : Subject). c.args.var < length (vars_of s)) (sym c.self.view_is) c.requires)

pub returns-in-Answer : goal.returns-in-Answer
returns-in-Answer c =
    meant c.args.self.now _ c.self.inside.numbering c.args.var _ _ c.self.view_is c.self.invariant c.meaning_of.ensures c.in-Answer.is
