use Rattle.std.proofs.Common.{Some, refl, arith}
use Rattle.watch_solver.proofs.GoalValue.{goal_is_false, goal_is_open, goal_is_true, var_listed}
use Rattle.watch_solver.proofs.search.next_step.Goals as goal

pub value-requires : goal.value-requires
value-requires g c =
    var_listed c.args.trail.now c.args.goal c.in-Some.lit _ _
    (record { is_goal = c.in-Some.is; values_are = c.values.ensures; is_of = c.var.ensures.value }) c.requires.within

pub next_free-requires-then-value-negative-clause-goal_false : goal.next_free-requires-then-value-negative-clause-goal_false
next_free-requires-then-value-negative-clause-goal_false g c =
    goal_is_false c.args.trail.now (Some c.in-Some.lit) c.in-Some.lit _ _ c.in-Some-value.value _ _
    (record { is_goal = refl; values_are = c.values.ensures; is_of = c.var.ensures.value })
    c.value.ensures c.in-Some-value.is c.negative.ensures c.if-value-negative.true

pub returns-in-None : goal.returns-in-None
returns-in-None g c =
    goal_is_open c.args.trail.now c.args.goal c.in-Some.lit _ _ _ _
    (record { is_goal = c.in-Some.is; values_are = c.values.ensures; is_of = c.var.ensures.value })
    c.value.ensures c.in-None.is c.negated.ensures (omega arith)

pub returns-else-value-negative : goal.returns-else-value-negative
returns-else-value-negative g c =
    goal_is_true c.args.trail.now c.args.goal c.in-Some.lit _ _ c.in-Some-value.value _ _
    (record { is_goal = c.in-Some.is; values_are = c.values.ensures; is_of = c.var.ensures.value })
    c.value.ensures c.in-Some-value.is c.negative.ensures c.if-value-negative.false (omega arith)
