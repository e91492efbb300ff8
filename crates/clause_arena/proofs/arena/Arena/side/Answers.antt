use Rattle.std.proofs.Common.{◌∙◌, Some, slice_get, sym, ap}
use Rattle.clause_arena.specs.Arenas.{Arena, place_of}
use Rattle.clause_arena.proofs.Sides.{same_place, slot_lit, watcher_watching}
use Rattle.clause_arena.proofs.arena.Arena.side.Goals as goal

pub side_by-requires : goal.side_by-requires
side_by-requires c = watcher_watching _ _ _ c.self.invariant.are_slots _ _ _ c.self.view_is _ _ c.requires

pub returns-clause-here : goal.returns-clause-here
returns-clause-here c lits is =
    let there = ap (λ (a : Arena). slice_get a.clauses c.args.clause.0) c.self.view_is ∙ is in
    let s = slot_lit _ _ _ (place_of c.args.lit) c.args.clause.0 c.side_by.result lits c.self.invariant.are_slots
    c.side_by.ensures.low c.side_by.ensures.here there in
    s.1 ∙ ap Some (same_place s.0 c.args.lit (sym s.2))
