use Rattle.std.proofs.Common.{◌∙◌, ap, arith}
use Rattle.refutation_log.specs.Counted.{counted_steps}
use Rattle.search_trail.specs.Trails.{Trail}
use Rattle.watch_solver.proofs.Grown.{counted_across, counted_none, grown_across}
use Rattle.watch_solver.proofs.UnderGoal.{goal_ground}
use Rattle.watch_solver.proofs.decision.decided.Goals as goal

pub loop-found-init : goal.loop-found-init
loop-found-init g c =
    let same = ap counted_steps c.undo_to.ensures.steps in
    record {
      frame = c.undo_to.ensures.frame;
      scope = ap (λ (t : Trail). t.scope) c.undo_to.ensures.trail;
      counted = counted_none _ _ _ c.undo_to.ensures.steps;
      units = omega (arith, same);
      kept = goal_ground c.undo_to.new.self.trail c.args.goal (ap (λ (t : Trail). t.starts) c.undo_to.ensures.trail);
    }

pub loop-found-preserved : goal.loop-found-preserved
loop-found-preserved g c = record {
  frame = c.turn.ensures.frame ∙ c.loop-found.invariant.frame;
  scope = c.turn.ensures.scope ∙ c.loop-found.invariant.scope;
  counted = counted_across c.args.state.now c.loop-found.state _ c.turn.new.state.steps c.loop-found.invariant.frame
      c.loop-found.invariant.counted
      (rw c.in-Ok-None.field-0-is at c.in-Ok-None.ensures.counted);
  units = c.turn.ensures.units ∙ c.loop-found.invariant.units;
  kept = rw c.in-Ok-None.field-0-is at c.in-Ok-None.ensures.kept;
}

pub returns-in-Ok-Some-clause-grown : goal.returns-in-Ok-Some-clause-grown
returns-in-Ok-Some-clause-grown g c =
    grown_across c.args.state.now c.loop-found.state _ c.turn.new.state.steps c.loop-found.invariant.frame
    c.loop-found.invariant.counted c.turn.ensures.grown

pub returns-in-Err-clause-grown : goal.returns-in-Err-clause-grown
returns-in-Err-clause-grown g c =
    grown_across c.args.state.now c.loop-found.state _ c.turn.new.state.steps c.loop-found.invariant.frame
    c.loop-found.invariant.counted c.turn.ensures.grown
