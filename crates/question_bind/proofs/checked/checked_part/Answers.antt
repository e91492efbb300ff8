-- The rows are those of the relation.
use Rattle.std.proofs.Common.{List, subst}
use Rattle.currency_base.specs.declared.row.Row.{Row}
use Rattle.bind_faults.specs.Faults.{IsDue}
use Rattle.order_bind.specs.TableOrders as table
use Rattle.question_bind.proofs.Known.{rows_read}
use Rattle.question_bind.proofs.checked.checked_part.Goals as goal

pub returns-in-Table : goal.returns-in-Table
returns-in-Table c =
    let rows = rows_read c.args.spec.now.relations c.relations.result.now c.args.head.now.rel
    c.index-relations-head.result c.as_slice-rows.result.now
    c.relations.ensures.value c.requires.head c.index-relations-head.is c.as_slice-rows.ensures in
    rw c.in-Table.is (subst (λ (rs : List Row). IsDue (table.checked c.in-Table.document.name rs c.args.pairs)
    c.checked-in-Table.result) rows c.checked-in-Table.ensures)
