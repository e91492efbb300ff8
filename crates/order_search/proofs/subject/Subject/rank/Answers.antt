use Rattle.std.proofs.Common.{◌≡◌, IfOk, length, subst, sym}
use Rattle.completion_build.specs.Ranked.{IsBuilt}
use Rattle.order_literals.specs.Numbers.{Numbers}
use Rattle.order_literals.specs.Statements.{statements_of}
use Rattle.order_search.specs.Kept.{vars_of}
use Rattle.order_search.specs.Searches.{Subject}
use Rattle.order_search.proofs.subject.Subject.rank.Goals as goal

pub rank-requires-clause-assignment : goal.rank-requires-clause-assignment
rank-requires-clause-assignment c =
    subst (λ (n : Numbers). length c.args.truths.now ≡ length (statements_of n)) (sym c.self.invariant)
    (subst (λ (s : Subject). length c.args.truths.now ≡ length (vars_of s)) (sym c.self.view_is) c.requires)

pub returns : goal.returns
returns c =
    subst (λ (s : Subject). IfOk c.rank.result (IsBuilt s.spec.relations (vars_of s) c.args.truths.now)) c.self.view_is
    (subst (λ (n : Numbers). IfOk c.rank.result (IsBuilt c.self.inside.spec.now.relations (statements_of n)
    c.args.truths.now)) c.self.invariant c.rank.ensures)
