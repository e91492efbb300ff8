use Rattle.std.proofs.Common.{sym, subst}
use Rattle.order_literals.specs.Said.{Says, top}
use Rattle.order_clauses.specs.Subject.{variables, Attribute, IsWantedRow}
use Rattle.order_clauses.proofs.Columns.{row_in}
use Rattle.order_clauses.proofs.Reading.{says_of}
use Rattle.order_clauses.proofs.column.Column.top.Goals as goal

pub top-requires : goal.top-requires
top-requires c =
    let q : Attribute = record {
      subject = c.self.inside.sayings.now;
      relation = c.self.inside.relation.now;
      rel =
          c.self.inside.rel;
      attr = c.self.inside.attr;
    } in
    let n = c.numbering.result.now in
    let here : IsWantedRow q c.args.row = subst (λ (p : Attribute). IsWantedRow p c.args.row) (sym c.self.view_is) c.requires in
    row_in q n c.args.row c.numbering.ensures c.self.invariant here

pub returns : goal.returns
returns c =
    let q : Attribute = record {
      subject = c.self.inside.sayings.now;
      relation = c.self.inside.relation.now;
      rel =
          c.self.inside.rel;
      attr = c.self.inside.attr;
    } in
    let n = c.numbering.result.now in
    subst (λ (p : Attribute). Says (variables p.subject) c.top.result (top p.rel p.attr c.args.row)) c.self.view_is
    (says_of q.subject n c.top.result (top q.rel q.attr c.args.row) c.numbering.ensures c.top.ensures)
