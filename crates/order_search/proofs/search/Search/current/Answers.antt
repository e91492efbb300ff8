use Rattle.std.proofs.Common.{subst, sym}
use Rattle.order_search.specs.Kept.{vars_of}
use Rattle.order_search.specs.Searches.{IsWantedRow, Search}
use Rattle.order_search.proofs.Rows.{literal_within}
use Rattle.order_search.proofs.search.Search.current.Goals as goal

pub returns-clause-within : goal.returns-clause-within
returns-clause-within c =
    let is = subst (λ (s : Search). IsWantedRow s.spec s.wanted c.args.rel c.args.attr c.args.row)
    (sym c.self.view_is) c.requires in
    literal_within c.self.inside.subject c.self.inside.progress.solver c.args.self.now c.self.view_is
    c.self.invariant.0.search c.current.result
    (c.one_literal.ensures.within (vars_of c.self.inside.subject) c.current.result _
    (c.current.ensures is.relation is.is_relation))
