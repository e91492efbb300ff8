use Rattle.std.proofs.Common.{List, subst, sym}
use Rattle.refutation_log.specs.declared.step.Step.{Step}
use Rattle.search_trail.specs.Trails.{AreEntries}
use Rattle.search_state.specs.States.{vars_of}
use Rattle.watch_solver.specs.Underway.{HasCounted}
use Rattle.watch_solver.proofs.Grown.{counted_learned}
use Rattle.watch_solver.proofs.UnderGoal.{goal_learned}
use Rattle.watch_solver.proofs.decision.learn.Goals as goal

pub start_over-requires-clause-kept : goal.start_over-requires-clause-kept
start_over-requires-clause-kept g c =
    goal_learned c.args.state.now c.learn.new.self c.args.goal
    (subst AreEntries c.trail.ensures c.are_entries.ensures) c.in_ok-learn.ensures.ok c.requires.kept

pub returns-clause-counted : goal.returns-clause-counted
returns-clause-counted g c =
    subst (λ (steps : List Step). HasCounted (vars_of c.args.state.now) c.args.state.now.steps steps)
    (sym c.start_over.ensures.steps)
    (counted_learned c.args.state.now c.learn.new.self c.in_ok-learn.ensures.ok)
