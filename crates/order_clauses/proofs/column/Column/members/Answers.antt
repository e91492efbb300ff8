use Rattle.std.proofs.Common.{◌≡◌, ◌<◌, sym, subst, length}
use Rattle.order_clauses.specs.Listing.{members_of}
use Rattle.order_clauses.specs.Subject.{Attribute}
use Rattle.order_clauses.proofs.Columns.{rel_within, members_are, ent_within}
use Rattle.order_clauses.proofs.column.Column.members.Goals as goal

pub lists-requires : goal.lists-requires
lists-requires c =
    let q : Attribute = record {
      subject = c.self.inside.sayings.now;
      relation = c.self.inside.relation.now;
      rel =
          c.self.inside.rel;
      attr = c.self.inside.attr;
    } in
    let n = c.numbering.result.now in
    rel_within q n c.numbering.ensures c.self.invariant

pub of_entity-requires : goal.of_entity-requires
of_entity-requires c =
    let q : Attribute = record {
      subject = c.self.inside.sayings.now;
      relation = c.self.inside.relation.now;
      rel =
          c.self.inside.rel;
      attr = c.self.inside.attr;
    } in
    let n = c.numbering.result.now in
    let within = subst (λ (p : Attribute). c.args.ent.0 < length p.relation.entities) (sym c.self.view_is) c.requires in
    ent_within q n c.lists.result.now c.args.ent.0 c.numbering.ensures c.self.invariant c.lists.ensures within

pub returns : goal.returns
returns c =
    let q : Attribute = record {
      subject = c.self.inside.sayings.now;
      relation = c.self.inside.relation.now;
      rel =
          c.self.inside.rel;
      attr = c.self.inside.attr;
    } in
    let n = c.numbering.result.now in
    subst (λ (p : Attribute). c.of_entity.result.now ≡ members_of p.relation c.args.ent.0) c.self.view_is
    (members_are q n c.lists.result.now c.args.ent.0 c.of_entity.result.now c.numbering.ensures c.self.invariant
    c.lists.ensures c.of_entity.ensures)
