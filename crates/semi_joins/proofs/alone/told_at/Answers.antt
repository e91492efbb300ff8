use Rattle.std.proofs.Common.{Some, ap, sym, ◌∙◌}
use Rattle.semi_joins.proofs.Marking.{got}
use Rattle.semi_joins.proofs.Telling.{told_constant, told_places}
use Rattle.semi_joins.proofs.alone.told_at.Goals as goal

pub returns-in-Var : goal.returns-in-Var
returns-in-Var c =
    let read = c.in_ok-var.ensures.lookup in
    let at = got c.args.terms.now c.args.place c.in_ok-var.field-0.now read.0 read.1 in
    told_places c.args.terms.now c.args.row.now c.args.place c.in-Var.var c.value_in.result
    (sym (at ∙ ap (λ t. Some t) c.in-Var.is)) c.value_in.ensures

pub returns-in-Constant : goal.returns-in-Constant
returns-in-Constant c =
    let read = c.in_ok-var.ensures.lookup in
    let at = got c.args.terms.now c.args.place c.in_ok-var.field-0.now read.0 read.1 in
    told_constant c.args.terms.now c.args.row.now c.args.place c.in-Constant.constant
    (sym (at ∙ ap (λ t. Some t) c.in-Constant.is))
