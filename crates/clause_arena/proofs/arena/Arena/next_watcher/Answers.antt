use Rattle.std.proofs.Common.{◌<◌, ◌∙◌, ℕ, length, sym, ap, subst, arith}
use Rattle.std.specs.Prelude.{option_map}
use Rattle.watch_links.specs.Links.{IsIn, following, list_of}
use Rattle.clause_arena.specs.Arenas.{Arena, place_of}
use Rattle.clause_arena.specs.Slots.{clause_of}
use Rattle.clause_arena.proofs.Sides.{watcher_within, watcher_watching, following_seen}
use Rattle.clause_arena.proofs.arena.Arena.next_watcher.Goals as goal

pub side_by-side-requires : goal.side_by-side-requires
side_by-side-requires c = watcher_watching _ _ _ c.self.invariant.are_slots _ _ _ c.self.view_is _ _ c.requires

pub slot_of-requires : goal.slot_of-requires
slot_of-requires c =
    let within : c.args.clause.0 < length c.self.inside.clauses.lists = watcher_within _ _ _
    c.self.invariant.are_slots _ _ _ c.self.view_is _ _ c.requires in
    omega (arith, within, c.self.invariant.are_slots.two_each, c.self.invariant.few_slots, c.side_by-side.ensures.low)

pub next-requires : goal.next-requires
next-requires c =
    let within : c.args.clause.0 < length c.self.inside.clauses.lists = watcher_within _ _ _
    c.self.invariant.are_slots _ _ _ c.self.view_is _ _ c.requires in
    omega (arith, within, c.self.invariant.are_slots.two_each, c.slot_of.ensures, c.side_by-side.ensures.low)

pub returns : goal.returns
returns c =
    let are = c.self.invariant.are_slots in
    let here = c.side_by-side.ensures.here in
    let stands = subst (λ (n : ℕ). IsIn n (list_of c.self.inside.links.lists (place_of c.args.lit)))
    (sym c.slot_of.ensures) here in
    c.clause_at.ensures ∙ ap (option_map clause_of) (c.next.ensures (place_of c.args.lit) stands)
    ∙ ap (λ (n : ℕ). option_map clause_of (following n (list_of c.self.inside.links.lists (place_of c.args.lit))))
    c.slot_of.ensures
    ∙ sym (following_seen _ _ _ are (place_of c.args.lit) _ _ c.side_by-side.ensures.low here)
    ∙ ap (λ (a : Arena). following c.args.clause.0 (list_of a.watchers (place_of c.args.lit))) c.self.view_is
