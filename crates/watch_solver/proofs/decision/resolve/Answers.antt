use Rattle.std.proofs.Common.{◌<◌, length, refl, ap, subst, arith}
use Rattle.search_trail.specs.Trails.{Trail}
use Rattle.watch_solver.specs.Underway.{IsGoalBelow}
use Rattle.watch_solver.proofs.Grown.{grown_none}
use Rattle.watch_solver.proofs.Shown.{answer_spent, is_due}
use Rattle.watch_solver.proofs.decision.resolve.Goals as goal

pub returns-then-depth-goal_level-clause-found : goal.returns-then-depth-goal_level-clause-found
returns-then-depth-goal_level-clause-found g c = c.in_ok-found.ensures.found c.args.budget.now

pub returns-then-is_spent-clause-grown : goal.returns-then-is_spent-clause-grown
returns-then-is_spent-clause-grown g c = grown_none _ _ _ refl

pub returns-then-is_spent-clause-found : goal.returns-then-is_spent-clause-found
returns-then-is_spent-clause-found g c =
    let few = ap (λ (t : Trail). length t.starts) c.trail.ensures in
    let few-2 = ap (λ (t : Trail). length t.starts) c.trail-2.ensures in
    let deep : 0 < length c.args.state.now.trail.starts = omega (arith, few, c.depth.ensures, c.if-depth-goal_level.false) in
    let above : c.goal_level.result < length c.trail-2.result.now.starts = omega (
      arith,
      few,
      few-2,
      c.depth.ensures,
      c.if-depth-goal_level.false,
    ) in
    answer_spent c.args.state.now c.args.goal c.args.budget.now (c.is_spent.ensures.spent c.if-is_spent.true)
    (is_due c.args.state.now c.args.goal c.args.conflict c.is_state.ensures c.requires.conflict deep
    (subst (λ (t : Trail). IsGoalBelow t c.args.goal) c.trail-2.ensures (c.goal_level.ensures.below above)))

pub returns-in_err-learn-clause-grown : goal.returns-in_err-learn-clause-grown
returns-in_err-learn-clause-grown g c = grown_none _ _ _ c.in_err-learn.ensures.err
