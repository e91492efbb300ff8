use Rattle.std.proofs.Common.{◌∙◌}
use Rattle.search_state.proofs.Holding.{held_same}
use Rattle.search_state.proofs.search.Search.reserve.Goals as goal

pub returns-clause-held : goal.returns-clause-held
returns-clause-held c =
    λ clauses held. held_same clauses _ _ _ _ (c.reserve.ensures.clauses ∙ c.make_room.ensures.clauses)
    (c.reserve.ensures.watchers ∙ c.make_room.ensures.watchers) held
