use Rattle.std.proofs.Common.{subst, sym}
use Rattle.order_links.specs.Lists.{IsListOf}
use Rattle.order_search.specs.Kept.{AreRowsOf}
use Rattle.order_search.specs.Searches.{Subject}
use Rattle.order_search.proofs.Rows.{list_ent, list_rel, list_rows}
use Rattle.order_search.proofs.subject.Subject.rows.Goals as goal

pub lists-requires : goal.lists-requires
lists-requires c =
    let f = c.self.inside in
    let is = subst (λ (s : Subject). IsListOf s.spec.relations c.args.list) (sym c.self.view_is) c.requires in
    list_rel f.spec.now.relations f.wanted f.numbering c.self.invariant c.args.list is

pub of_entity-requires : goal.of_entity-requires
of_entity-requires c =
    let f = c.self.inside in
    let is = subst (λ (s : Subject). IsListOf s.spec.relations c.args.list) (sym c.self.view_is) c.requires in
    list_ent f.spec.now.relations f.wanted f.numbering c.self.invariant c.args.list is c.lists.result.now c.lists.ensures

pub returns : goal.returns
returns c =
    let f = c.self.inside in
    let is = subst (λ (s : Subject). IsListOf s.spec.relations c.args.list) (sym c.self.view_is) c.requires in
    subst (λ (s : Subject). AreRowsOf s c.args.list c.of_entity.result.now) c.self.view_is record {
      is_list = is;
      rows_are = list_rows f.spec.now.relations f.wanted f.numbering c.self.invariant c.args.list is
          c.lists.result.now c.of_entity.result.now c.lists.ensures
          c.of_entity.ensures;
    }
