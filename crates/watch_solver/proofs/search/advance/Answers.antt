use Rattle.std.proofs.Common.{sym, subst}
use Rattle.search_trail.specs.Trails.{Trail}
use Rattle.watch_solver.specs.Underway.{IsOfGoal}
use Rattle.watch_solver.proofs.UnderGoal.{few_in_state, goal_propagated}
use Rattle.watch_solver.proofs.search.advance.Goals as goal

pub returns-in-Some-clause-kept : goal.returns-in-Some-clause-kept
returns-in-Some-clause-kept g c = goal_propagated c.args.state.now c.propagate.new.self c.args.goal
    c.propagate.ensures.extended c.requires.kept

pub returns-in-Some-clause-bound : goal.returns-in-Some-clause-bound
returns-in-Some-clause-bound g c = few_in_state c.propagate.new.self _ c.trail.ensures c.are_entries.ensures c.is_state.ensures

pub next_step-requires-clause-kept : goal.next_step-requires-clause-kept
next_step-requires-clause-kept g c =
    subst (λ (t : Trail). IsOfGoal t c.args.goal) (sym c.trail-2.ensures)
    (goal_propagated c.args.state.now c.propagate.new.self c.args.goal c.propagate.ensures.extended c.requires.kept)

pub returns-in-Complete-clause-kept : goal.returns-in-Complete-clause-kept
returns-in-Complete-clause-kept g c = goal_propagated c.args.state.now c.propagate.new.self c.args.goal
    c.propagate.ensures.extended c.requires.kept

pub returns-in-Complete-clause-bound : goal.returns-in-Complete-clause-bound
returns-in-Complete-clause-bound g c = few_in_state c.propagate.new.self _ c.trail-in-Complete.ensures
    c.are_entries-in-Complete.ensures c.is_state-2.ensures

pub returns-in-Holds-clause-bound : goal.returns-in-Holds-clause-bound
returns-in-Holds-clause-bound g c = few_in_state c.propagate.new.self _ c.trail-in-Holds.ensures
    c.are_entries-in-Holds.ensures c.is_state-2.ensures

pub returns-in-Assume-clause-bound : goal.returns-in-Assume-clause-bound
returns-in-Assume-clause-bound g c =
    few_in_state c.assume.new.self _ c.trail-in-Assume.ensures c.are_entries-in-Assume.ensures c.is_state-in-Assume.ensures
