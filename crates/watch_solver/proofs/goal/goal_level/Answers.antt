use Rattle.std.proofs.Common.{arith}
use Rattle.watch_solver.proofs.UnderGoal.{below_of_level, bound_of_level, goal_given, last_of_level}
use Rattle.watch_solver.proofs.goal.goal_level.Goals as goal

pub level-requires-clause-given : goal.level-requires-clause-given
level-requires-clause-given c = goal_given _ _ c.in-Some.lit _ c.in-Some.is c.requires.kept (omega arith) c.var.ensures.value

pub returns-in-Some-clause-bound : goal.returns-in-Some-clause-bound
returns-in-Some-clause-bound c = bound_of_level _ _ c.in-Some.lit _ _ c.in-Some.is c.requires.kept (omega arith)
    c.var.ensures.value c.level.ensures

pub returns-in-Some-clause-last : goal.returns-in-Some-clause-last
returns-in-Some-clause-last c =
    last_of_level _ _ c.in-Some.lit _ _ c.in-Some.is c.requires.kept (omega arith) c.var.ensures.value
    c.level.ensures c.are_entries.ensures

pub returns-in-Some-clause-below : goal.returns-in-Some-clause-below
returns-in-Some-clause-below c =
    below_of_level _ _ c.in-Some.lit _ _ c.in-Some.is c.requires.kept (omega arith) c.var.ensures.value
    c.level.ensures c.are_entries.ensures
