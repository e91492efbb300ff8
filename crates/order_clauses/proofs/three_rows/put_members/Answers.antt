use Rattle.std.proofs.Common.{List, OnOk, subst}
use Rattle.currency_base.specs.declared.ids.RowId.{RowId}
use Rattle.order_clauses.specs.Added.{Adds}
use Rattle.order_clauses.specs.Listing.{three_labels}
use Rattle.order_clauses.proofs.three_rows.put_members.Goals as goal

pub returns : goal.returns
returns c =
    let p = c.args.column.now in
    let r = c.of_rows in
    subst (λ (rows : List RowId). OnOk r.result (Adds p.subject (three_labels p rows) c.args.steps.now r.new.steps))
    c.members.ensures c.of_rows.ensures
