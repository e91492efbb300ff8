use Rattle.std.proofs.Common.{All, length, subst}
use Rattle.refutation_log.specs.Steps.{clause_of}
use Rattle.search_state.specs.States.{IsFit}
use Rattle.watch_solver.specs.Decided.{Solver}
use Rattle.watch_solver.proofs.solver.Solver.is_solver.Goals as goal

pub returns-clause-fit : goal.returns-clause-fit
returns-clause-fit c =
    subst (λ (s : Solver). All (λ step. IsFit (length s.frame.statements) (clause_of step)) s.steps) c.self.view_is
    c.is_state.ensures.fit
