use Rattle.std.proofs.Common.{◌∙◌, ℕ, Some, sym, ap, subst}
use Rattle.watch_links.specs.Links.{IsIn, list_of}
use Rattle.clause_arena.specs.Arenas.{place_of}
use Rattle.clause_arena.proofs.Sides.{same_place, watched_slot}
use Rattle.clause_arena.proofs.arena.Arena.watched.Goals as goal

pub returns : goal.returns
returns c lits is =
    let s = watched_slot _ _ _ c.self.invariant.are_slots _ _ _ c.self.view_is c.args.clause.0 c.args.side lits
    c.requires.watched is c.requires.low in
    let stands = subst (λ (n : ℕ). IsIn n (list_of c.self.inside.links.lists (place_of s.0))) (sym c.slot_of.ensures) s.2 in
    let place = c.lit_of.ensures ∙ c.owner.ensures (place_of s.0) stands in
    s.1 ∙ ap Some (sym (same_place c.lit_of.result s.0 place))
