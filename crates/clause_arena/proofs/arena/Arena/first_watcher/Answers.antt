use Rattle.std.proofs.Common.{◌∙◌, sym, ap}
use Rattle.std.specs.Prelude.{option_map}
use Rattle.watch_links.specs.Links.{head_of, list_of}
use Rattle.clause_arena.specs.Arenas.{Arena, place_of}
use Rattle.clause_arena.specs.Slots.{clause_of}
use Rattle.clause_arena.proofs.Sides.{first_seen}
use Rattle.clause_arena.proofs.arena.Arena.first_watcher.Goals as goal

pub returns : goal.returns
returns c =
    c.clause_at.ensures ∙ ap (option_map clause_of) c.first.ensures
    ∙ ap (λ owner. option_map clause_of (head_of (list_of c.self.inside.links.lists owner))) c.owner_of.ensures
    ∙ sym (first_seen _ _ _ c.self.invariant.are_slots (place_of c.args.lit))
    ∙ ap (λ (a : Arena). head_of (list_of a.watchers (place_of c.args.lit))) c.self.view_is
