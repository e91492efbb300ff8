use Rattle.std.proofs.Common.{subst}
use Rattle.clause_arena.specs.Arenas.{AreWatchers}
use Rattle.clause_arena.proofs.Sides.{seen_watchers}
use Rattle.clause_arena.proofs.arena.Arena.are_watchers.Goals as goal

pub returns : goal.returns
returns c = subst AreWatchers c.self.view_is (seen_watchers _ _ _ c.self.invariant.are_slots _ _ c.are_whole.ensures.once)
