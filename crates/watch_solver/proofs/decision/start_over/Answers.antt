use Rattle.std.proofs.Common.{subst}
use Rattle.search_trail.specs.Trails.{AreEntries}
use Rattle.watch_solver.proofs.UnderGoal.{goal_back}
use Rattle.watch_solver.proofs.decision.start_over.Goals as goal

pub returns-clause-kept : goal.returns-clause-kept
returns-clause-kept g c =
    goal_back c.args.state.now c.undo_to.new.self c.args.goal c.goal_level-level.result
    (subst AreEntries c.trail.ensures c.are_entries.ensures) c.undo_to.ensures
    c.requires.kept
