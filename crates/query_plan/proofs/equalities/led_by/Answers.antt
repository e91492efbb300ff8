use Rattle.std.proofs.Common.{List, IfSome, subst}
use Rattle.query_model.specs.declared.query.Test.{Test}
use Rattle.query_plan.specs.Implied.{Equated, IsImplied, IsLed}
use Rattle.query_plan.proofs.Leading.{led_on}
use Rattle.query_plan.proofs.equalities.led_by.Goals as goal

pub returns-in-Var : goal.returns-in-Var
returns-in-Var c =
    let e : Equated = record { side = c.equality.inside.side.now; var = c.equality.inside.var } in
    let told = led_on e c.in-Var.side c.args.var c.one_led.result c.in-Var.is c.one_led.ensures in
    subst (λ (k : Equated). IfSome c.one_led.result (λ led. (tests : List Test) → IsImplied tests k → IsLed tests c.args.var led))
    c.equality.view_is told
