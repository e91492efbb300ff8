use Rattle.std.proofs.Common.{◌≡◌, ◌<◌, Some, length, slice_get, sym, subst}
use Rattle.entity_lists.specs.Lists.{entities_of, rows_of}
use Rattle.spec_model.specs.declared.relation.Relation.{Relation}
use Rattle.order_start.specs.Lists.{Subject}
use Rattle.order_start.proofs.Subjects.{rel_within, ent_within, rows_are, is_listed}
use Rattle.order_start.proofs.source.Source.list.Goals as goal

pub lists-requires : goal.lists-requires
lists-requires c =
    let fields = c.self.inside in
    let seen : Subject = record {
      relations = fields.spec.now.relations;
      wanted = fields.wanted.now;
      numbers =
          fields.numbering.now;
      known = fields.known.now.given;
    } in
    rel_within seen c.args.rel.0 c.self.invariant (subst (λ (s : Subject). c.args.rel.0 < length s.relations)
    (sym c.self.view_is) c.requires.rel)

pub of_entity-rows-requires : goal.of_entity-rows-requires
of_entity-rows-requires c =
    let fields = c.self.inside in
    let seen : Subject = record {
      relations = fields.spec.now.relations;
      wanted = fields.wanted.now;
      numbers =
          fields.numbering.now;
      known = fields.known.now.given;
    } in
    ent_within seen c.args.rel.0 c.args.ent.0 c.lists.result.now c.self.invariant
    (subst (λ (s : Subject). c.args.rel.0 < length s.relations) (sym c.self.view_is) c.requires.rel) c.lists.ensures
    (subst (λ (s : Subject). (r : Relation) → slice_get s.relations c.args.rel.0 ≡ Some r → c.args.ent.0 < length
    r.entities) (sym c.self.view_is) c.requires.ent)

pub invariant_of-result : goal.invariant_of-result
invariant_of-result c =
    let fields = c.self.inside in
    let seen : Subject = record {
      relations = fields.spec.now.relations;
      wanted = fields.wanted.now;
      numbers =
          fields.numbering.now;
      known = fields.known.now.given;
    } in
    is_listed seen c.args.rel c.args.attr c.args.ent.0 c.lists.result.now c.of_entity-rows.result.now fields.turned
    c.self.invariant
    (subst (λ (s : Subject). c.args.rel.0 < length s.relations) (sym c.self.view_is) c.requires.rel)
    (subst (λ (s : Subject). (r : Relation) → slice_get s.relations c.args.rel.0 ≡ Some r → c.args.attr.0 < length
    r.attrs) (sym c.self.view_is) c.requires.attr)
    c.lists.ensures c.of_entity-rows.ensures

pub returns-clause-rows : goal.returns-clause-rows
returns-clause-rows c =
    let fields = c.self.inside in
    let seen : Subject = record {
      relations = fields.spec.now.relations;
      wanted = fields.wanted.now;
      numbers =
          fields.numbering.now;
      known = fields.known.now.given;
    } in
    subst (λ (s : Subject). (r : Relation) → slice_get s.relations c.args.rel.0 ≡ Some r
    → c.of_entity-rows.result.now ≡ rows_of (entities_of r.rows) c.args.ent.0) c.self.view_is
    (λ r at. rows_are seen c.args.rel.0 c.args.ent.0 r c.lists.result.now c.of_entity-rows.result.now
    c.self.invariant at c.lists.ensures c.of_entity-rows.ensures)
