use Rattle.std.proofs.Common.{subst}
use Rattle.search_state.specs.States.{IsState}
use Rattle.search_state.proofs.Keeping.{state_of}
use Rattle.search_state.proofs.state.State.is_state.Goals as goal

pub returns : goal.returns
returns c = subst IsState c.self.view_is (state_of _ _ _ c.self.inside.search.arena _ _ _ c.self.invariant
    c.are_watchers.ensures c.are_entries.ensures)
