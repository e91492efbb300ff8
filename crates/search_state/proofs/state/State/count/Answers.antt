use Rattle.std.proofs.Common.{◌∙◌, length, ap}
use Rattle.search_state.specs.States.{State}
use Rattle.search_state.proofs.Keeping.{as_many_clauses}
use Rattle.search_state.proofs.state.State.count.Goals as goal

pub returns : goal.returns
returns c =
    c.count.ensures ∙ as_many_clauses c.self.inside.log.steps c.self.inside.search.arena c.self.invariant.held.reordered
    ∙ ap (λ (s : State). length s.steps) c.self.view_is
