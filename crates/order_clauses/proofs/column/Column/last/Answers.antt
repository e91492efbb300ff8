use Rattle.std.proofs.Common.{◌≡◌, sym, subst}
use Rattle.value_names.specs.Names.{name_of}
use Rattle.order_literals.specs.Said.{Says, last}
use Rattle.order_clauses.specs.Subject.{variables, Attribute, IsWantedRow}
use Rattle.order_clauses.proofs.Columns.{row_in, named_of}
use Rattle.order_clauses.proofs.Reading.{says_of}
use Rattle.order_clauses.proofs.column.Column.last.Goals as goal

pub last-requires-clause-row : goal.last-requires-clause-row
last-requires-clause-row c =
    let q : Attribute = record {
      subject = c.self.inside.sayings.now;
      relation = c.self.inside.relation.now;
      rel =
          c.self.inside.rel;
      attr = c.self.inside.attr;
    } in
    let n = c.numbering.result.now in
    let here : IsWantedRow q c.args.row = subst (λ (p : Attribute). IsWantedRow p c.args.row) (sym c.self.view_is)
    c.requires.row in
    row_in q n c.args.row c.numbering.ensures c.self.invariant here

pub last-requires-clause-named : goal.last-requires-clause-named
last-requires-clause-named c =
    let q : Attribute = record {
      subject = c.self.inside.sayings.now;
      relation = c.self.inside.relation.now;
      rel =
          c.self.inside.rel;
      attr = c.self.inside.attr;
    } in
    let n = c.numbering.result.now in
    let here : IsWantedRow q c.args.row = subst (λ (p : Attribute). IsWantedRow p c.args.row) (sym c.self.view_is)
    c.requires.row in
    let e = subst (λ (p : Attribute). name_of p.relation.rows p.attr.0 c.args.row ≡ c.args.row) (sym c.self.view_is)
    c.requires.named in
    named_of q n c.args.row c.numbering.ensures c.self.invariant here e

pub returns : goal.returns
returns c =
    let q : Attribute = record {
      subject = c.self.inside.sayings.now;
      relation = c.self.inside.relation.now;
      rel =
          c.self.inside.rel;
      attr = c.self.inside.attr;
    } in
    let n = c.numbering.result.now in
    subst (λ (p : Attribute). Says (variables p.subject) c.last.result (last p.rel p.attr c.args.row)) c.self.view_is
    (says_of q.subject n c.last.result (last q.rel q.attr c.args.row) c.numbering.ensures c.last.ensures)
