use Rattle.std.proofs.Common.{◌<◌, length, subst, sym, arith}
use Rattle.order_search.specs.Kept.{vars_of}
use Rattle.order_search.specs.Searches.{Search}
use Rattle.order_search.proofs.Rows.{literal_within}
use Rattle.order_search.proofs.search.Search.answer.Goals as goal

pub answer-requires : goal.answer-requires
answer-requires c =
    let below = subst (λ (s : Search). c.args.place < length s.posed.answers) (sym c.self.view_is) c.requires in
    let many = c.self.invariant.0.search.log.as_many in
    omega (arith, below, many)

pub returns-clause-within : goal.returns-clause-within
returns-clause-within c =
    literal_within c.self.inside.subject c.self.inside.progress.solver c.args.self.now c.self.view_is
    c.self.invariant.0.search c.answer.result
    (c.one_literal.ensures.within (vars_of c.self.inside.subject) c.answer.result _ c.answer.ensures)
