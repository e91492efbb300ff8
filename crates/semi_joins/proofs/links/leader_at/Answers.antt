use Rattle.std.proofs.Common.{Some, ap, sym, ◌∙◌}
use Rattle.semi_joins.proofs.Linking.{led_at}
use Rattle.semi_joins.proofs.Marking.{got}
use Rattle.semi_joins.proofs.links.leader_at.Goals as goal

pub returns-in-Var : goal.returns-in-Var
returns-in-Var c =
    let read = c.in_ok-var.ensures.lookup in
    let at = got c.args.terms.now c.args.place c.in_ok-var.field-0.now read.0 read.1 in
    led_at c.args.conditions.now.tests c.args.terms.now c.args.place c.in-Var.var c.leader.result
    (sym (at ∙ ap (λ t. Some t) c.in-Var.is)) c.leader.ensures
