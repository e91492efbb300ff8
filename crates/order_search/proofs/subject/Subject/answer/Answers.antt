use Rattle.std.proofs.Common.{◌<◌, subst, sym}
use Rattle.match_clauses.specs.Clauses.{SaysAnswer}
use Rattle.order_literals.specs.Numbers.{Numbers}
use Rattle.order_literals.specs.Statements.{statements_of}
use Rattle.order_search.specs.Kept.{vars_of}
use Rattle.order_search.specs.Searches.{Subject}
use Rattle.order_search.proofs.subject.Subject.answer.Goals as goal

pub answer_lit-requires : goal.answer_lit-requires
answer_lit-requires c =
    subst (λ (n : Numbers). c.args.place < n.answers) (sym c.self.invariant)
    (subst (λ (s : Subject). c.args.place < s.wanted.answers) (sym c.self.view_is) c.requires)

pub returns : goal.returns
returns c =
    subst (λ (s : Subject). SaysAnswer (vars_of s) c.args.place c.answer_lit.result) c.self.view_is
    (subst (λ (n : Numbers). SaysAnswer (statements_of n) c.args.place c.answer_lit.result) c.self.invariant c.answer_lit.ensures)
