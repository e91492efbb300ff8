use Rattle.query_plan.proofs.Following.{one_side}
use Rattle.query_plan.proofs.given.anywhere.Goals as goal

pub returns-in-Var-Var : goal.returns-in-Var-Var
returns-in-Var-Var c = one_side c.args.low.now c.args.high.now _ _ c.one_variable.result c.in-Var-Var.is-0 c.in-Var-Var.is-1
    c.one_variable.ensures
