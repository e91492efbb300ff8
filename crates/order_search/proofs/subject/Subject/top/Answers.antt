use Rattle.std.proofs.Common.{◌≡◌, Some, slice_get, subst, sym}
use Rattle.order_literals.specs.Numbers.{Numbers}
use Rattle.order_literals.specs.Said.{Says, top}
use Rattle.order_literals.specs.Statements.{statements_of}
use Rattle.order_search.specs.Kept.{vars_of}
use Rattle.order_search.specs.Searches.{IsWantedRow, Subject}
use Rattle.order_search.proofs.Rows.{wanted_there}
use Rattle.order_search.proofs.subject.Subject.top.Goals as goal

pub top-requires : goal.top-requires
top-requires c =
    let f = c.self.inside in
    let is = subst (λ (s : Subject). IsWantedRow s.spec s.wanted c.args.rel c.args.attr c.args.row)
    (sym c.self.view_is) c.requires in
    let at = subst (λ (s : Subject). slice_get s.spec.relations c.args.rel.0 ≡ Some c.relation-relation.result.now)
    (sym c.self.view_is)
    c.relation-relation.ensures.value in
    (wanted_there f.spec.now f.wanted f.numbering c.self.invariant c.args.rel c.args.attr c.args.row is
    c.relation-relation.result.now at
    c.relation-relation.ensures.facts).numbered

pub returns : goal.returns
returns c =
    subst (λ (s : Subject). Says (vars_of s) c.top.result (top c.args.rel c.args.attr c.args.row)) c.self.view_is
    (subst (λ (n : Numbers). Says (statements_of n) c.top.result (top c.args.rel c.args.attr c.args.row)) c.self.invariant
    c.top.ensures)
