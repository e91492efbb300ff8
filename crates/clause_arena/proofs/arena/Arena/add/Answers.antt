use Rattle.std.proofs.Common.{◌∙◌, length, ap, arith}
use Rattle.clause_arena.specs.Arenas.{Arena, watching}
use Rattle.clause_arena.specs.Slots.{clauses_of}
use Rattle.clause_arena.proofs.Sides.{seen_within}
use Rattle.clause_arena.proofs.Added.{added, added_length, added_watchers}
use Rattle.clause_arena.proofs.arena.Arena.add.Goals as goal

pub invariant_of-self-2 : goal.invariant_of-self-2
invariant_of-self-2 c =
    let was = c.self.invariant in
    let links = c.in-Ok-push_links.ensures in
    let room = c.in-Ok.ensures in
    let within = seen_within _ _ _ was.are_slots _ _ _ c.self.view_is c.args.lits.now c.requires.within in
    let long = added_length _ _ _ was.are_slots c.args.lits.now in
    record {
      are_slots = rw (c.push.ensures.lists, room.lists, links.slots, links.lists)
          (added _ _ _ was.are_slots c.args.lits.now c.requires.distinct within);
      few_lists = rw links.lists (omega (arith, long, was.few_lists));
      few_slots = c.are_whole.ensures.few;
      clauses_room = omega (
        arith,
        was.clauses_room,
        room.stays_lists,
        c.push.ensures.lists_left,
        c.saturating_sub-self-inside.ensures,
      );
      links_room = omega (arith, was.links_room, links.left, c.saturating_sub-self-inside.ensures);
      lits_room = omega (arith, was.lits_room, room.stays_lits, c.push.ensures.lits_left, c.saturating_sub-self-inside-2.ensures);
    }

pub returns-clause-watchers : goal.returns-clause-watchers
returns-clause-watchers c =
    ap clauses_of c.in-Ok-push_links.ensures.lists
    ∙ added_watchers _ _ _ c.self.invariant.are_slots c.args.lits.now
    ∙ ap (λ (a : Arena). watching a.watchers c.args.lits.now (length a.clauses)) c.self.view_is
