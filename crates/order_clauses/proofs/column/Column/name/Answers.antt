use Rattle.std.proofs.Common.{◌≡◌, sym, subst}
use Rattle.value_names.specs.Names.{name_of}
use Rattle.order_clauses.specs.Subject.{Attribute, IsWantedRow}
use Rattle.order_clauses.proofs.Columns.{row_in, name_is_of}
use Rattle.order_clauses.proofs.column.Column.name.Goals as goal

pub name-requires : goal.name-requires
name-requires c =
    let q : Attribute = record {
      subject = c.self.inside.sayings.now;
      relation = c.self.inside.relation.now;
      rel =
          c.self.inside.rel;
      attr = c.self.inside.attr;
    } in
    let n = c.numbering.result.now in
    let here : IsWantedRow q c.args.row = subst (λ (p : Attribute). IsWantedRow p c.args.row) (sym c.self.view_is) c.requires in
    row_in q n c.args.row c.numbering.ensures c.self.invariant here

pub returns : goal.returns
returns c =
    let q : Attribute = record {
      subject = c.self.inside.sayings.now;
      relation = c.self.inside.relation.now;
      rel =
          c.self.inside.rel;
      attr = c.self.inside.attr;
    } in
    let n = c.numbering.result.now in
    let here : IsWantedRow q c.args.row = subst (λ (p : Attribute). IsWantedRow p c.args.row) (sym c.self.view_is) c.requires in
    subst (λ (p : Attribute). c.name.result ≡ name_of p.relation.rows p.attr.0 c.args.row) c.self.view_is
    (name_is_of q n c.args.row c.name.result c.numbering.ensures c.self.invariant here c.name.ensures)
