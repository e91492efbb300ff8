use Rattle.std.proofs.Common.{subst, sym}
use Rattle.order_clauses.specs.Subject.{IsPairIn}
use Rattle.order_literals.proofs.Callers.{pair_of}
use Rattle.order_search.specs.Kept.{vars_of}
use Rattle.order_search.specs.Searches.{Search}
use Rattle.order_search.proofs.Rows.{literal_within}
use Rattle.order_search.proofs.search.Search.before.Goals as goal

pub before-requires : goal.before-requires
before-requires c =
    let is = subst (λ (s : Search). IsPairIn s.spec c.args.rel c.args.attr c.args.earlier c.args.later)
    (sym c.self.view_is) c.requires in
    pair_of c.self.inside.subject.spec.relations c.self.inside.subject.wanted c.args.rel.0 c.args.attr.0
    c.args.earlier c.args.later is.relation is.is_relation
    is.attr_within is.two

pub returns-clause-within : goal.returns-clause-within
returns-clause-within c =
    literal_within c.self.inside.subject c.self.inside.progress.solver c.args.self.now c.self.view_is
    c.self.invariant.0.search c.before-2.result
    (c.one_literal.ensures.within (vars_of c.self.inside.subject) c.before-2.result _ c.before-2.ensures)
