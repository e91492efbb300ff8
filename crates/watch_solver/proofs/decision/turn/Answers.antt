use Rattle.watch_solver.proofs.Grown.{grown_none}
use Rattle.watch_solver.proofs.decision.turn.Goals as goal

pub returns-in-Complete-clause-grown : goal.returns-in-Complete-clause-grown
returns-in-Complete-clause-grown g c = grown_none _ _ _ c.search.ensures.steps

pub returns-in-Complete-clause-found : goal.returns-in-Complete-clause-found
returns-in-Complete-clause-found g c = c.found_model.ensures c.args.budget.now

pub returns-in_ok-prove-in-Holds-clause-found : goal.returns-in_ok-prove-in-Holds-clause-found
returns-in_ok-prove-in-Holds-clause-found g c = c.in_ok-prove-in-Holds.ensures.found c.args.budget.now
