use Rattle.std.proofs.Common.{◌≡◌, Some, slice_get, subst, sym}
use Rattle.order_literals.specs.Said.{Says, last}
use Rattle.value_names.specs.Names.{name_of}
use Rattle.order_search.specs.Kept.{vars_of}
use Rattle.order_search.specs.Searches.{IsWantedRow, Subject}
use Rattle.order_search.proofs.Rows.{WantedFacts, wanted_there, named_as}
use Rattle.order_search.proofs.subject.Subject.current.Goals as goal

wanted : (c : goal.After-self) → WantedFacts c.self.inside.spec.now.relations c.self.inside.wanted
    c.self.inside.numbering c.args.rel c.args.attr c.args.row
wanted c =
    let f = c.self.inside in
    let is = subst (λ (s : Subject). IsWantedRow s.spec s.wanted c.args.rel c.args.attr c.args.row)
    (sym c.self.view_is) c.requires in
    let at = subst (λ (s : Subject). slice_get s.spec.relations c.args.rel.0 ≡ Some c.relation-relation.result.now)
    (sym c.self.view_is)
    c.relation-relation.ensures.value in
    wanted_there f.spec.now f.wanted f.numbering c.self.invariant c.args.rel c.args.attr c.args.row is
    c.relation-relation.result.now at
    c.relation-relation.ensures.facts

pub name-name-requires : goal.name-name-requires
name-name-requires c = (wanted c).numbered

pub last-requires-clause-row : goal.last-requires-clause-row
last-requires-clause-row c = (wanted c.before).name_numbered c.name-name.result c.name-name.ensures

pub last-requires-clause-named : goal.last-requires-clause-named
last-requires-clause-named c = (wanted c.before).name_own c.name-name.result c.name-name.ensures

pub returns : goal.returns
returns c r at =
    let f = c.self.inside in
    subst (λ (s : Subject). Says (vars_of s) c.last.result
    (last c.args.rel c.args.attr (name_of r.rows c.args.attr.0 c.args.row))) c.self.view_is
    (named_as f.spec.now f.wanted f.numbering c.self.invariant c.args.rel c.args.attr c.args.row
    (wanted c.before.before) c.name-name.result c.name-name.ensures
    c.last.result c.last.ensures r (subst (λ (s : Subject). slice_get s.spec.relations c.args.rel.0 ≡ Some r)
    (sym c.self.view_is) at))
