use Rattle.std.proofs.Common.{ℕ, All, sym, subst}
use Rattle.refutation_log.specs.Steps.{clause_of}
use Rattle.search_state.specs.States.{IsFit}
use Rattle.search_state.proofs.state.State.new.Goals as goal

pub filled-requires-clause-fit : goal.filled-requires-clause-fit
filled-requires-clause-fit c =
    subst (λ (n : ℕ). All (λ step. IsFit n (clause_of step)) c.args.log.steps) (sym c.len-vars.ensures) c.requires.fit
