use Rattle.std.proofs.lemmas.Result.{on_ok_weaker}
use Rattle.order_clauses.proofs.WantedClauses.{row_all}
use Rattle.order_clauses.proofs.wanted.of_row.Goals as goal

pub returns : goal.returns
returns c =
    on_ok_weaker c.push_value.result
    (row_all c.args.column.now c.args.ent.0 c.args.row _ _ _ _ _ c.in_ok-above.ensures c.in_ok-push_top.ensures
    c.in_ok-push_last.ensures)
    c.push_value.ensures
