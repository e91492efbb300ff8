use Rattle.std.proofs.Common.{subst}
use Rattle.order_literals.specs.Numbers.{Numbers}
use Rattle.order_literals.specs.Said.{Says, before}
use Rattle.order_literals.specs.Statements.{statements_of}
use Rattle.order_search.specs.Kept.{vars_of}
use Rattle.order_search.specs.Searches.{Subject}
use Rattle.order_search.proofs.subject.Subject.before.Goals as goal

pub returns : goal.returns
returns c =
    subst (λ (s : Subject). Says (vars_of s) c.before-2.result
    (before c.args.rel c.args.attr c.args.first c.args.second)) c.self.view_is
    (subst (λ (n : Numbers). Says (statements_of n) c.before-2.result
    (before c.args.rel c.args.attr c.args.first c.args.second)) c.self.invariant c.before-2.ensures)
