use Rattle.std.proofs.Common.{length, ◌<◌, ◌≡◌, ◌+◌, ◌*◌, ◌∙◌, ℕ, List, Option, get_or, slice_get, slice_set, sym, ap, subst, arith}
use Rattle.std.specs.Prelude.{option_map}
use Rattle.std.proofs.lemmas.Option.{slice_get_within}
use Rattle.currency_base.specs.declared.lit.Lit.{Lit}
use Rattle.watch_links.specs.Links.{IsFree, coming_after, list_of, lists_with, lists_without}
use Rattle.clause_arena.specs.declared.clause.ClauseNo.{ClauseNo}
use Rattle.clause_arena.specs.Arenas.{Arena, place_of, watchers_of}
use Rattle.clause_arena.specs.Slots.{clauses_of}
use Rattle.clause_arena.proofs.Sides.{before_watching}
use Rattle.clause_arena.proofs.Moved.{can_move, comes_left, taken_inside, moved, moved_length, moved_watchers}
use Rattle.clause_arena.proofs.arena.Arena.move_watch.Goals as goal
use Rattle.clause_arena.proofs.arena.Arena.move_watch.Goals.{After-attach}

abbrev some : Lit
some = record { 0 = 0 }

pub slot_of-slot-requires : goal.slot_of-slot-requires
slot_of-slot-requires c =
    let within : c.args.clause.0 < length c.self.inside.clauses.lists = slice_get_within _ _ _ c.get-lits.ensures in
    omega (arith, within, c.requires.from, c.self.invariant.are_slots.two_each, c.self.invariant.few_slots)

pub slot_by-behind-requires : goal.slot_by-behind-requires
slot_by-behind-requires c =
    let can = can_move _ _ _ _ _ _ _ _ _ _ some c.self.invariant.are_slots c.self.view_is c.requires.watched
    c.get-lits.ensures c.requires.from c.requires.to c.requires.within in
    let is = ap (λ (a : Arena). slice_get a.clauses c.args.clause.0) (sym c.self.view_is) ∙ c.get-lits.ensures in
    before_watching _ _ _ c.self.invariant.are_slots _ _ _ c.self.view_is c.args.before _ c.args.clause.0
    (c.requires.before _ _ is can.is_left)

pub cut-requires : goal.cut-requires
cut-requires c =
    let can = can_move _ _ _ _ _ _ _ _ _ _ some c.self.invariant.are_slots c.self.view_is c.requires.watched
    c.get-lits.ensures c.requires.from c.requires.to c.requires.within in
    let left = get_or c.get-lits.result.now c.args.from some in
    let is = ap (λ (a : Arena). slice_get a.clauses c.args.clause.0) (sym c.self.view_is) ∙ c.get-lits.ensures in
    let comes =
    ap (λ (o : Option ℕ). coming_after o (list_of (clauses_of c.self.inside.links.lists) (place_of left)))
    c.slot_by-behind.ensures.clause
    ∙ ap (λ (a : Arena). coming_after (option_map (λ (no : ClauseNo). no.0) c.args.before) (watchers_of a left)) c.self.view_is
    ∙ c.requires.before _ _ is can.is_left in
    rw (c.owner_of-left.ensures, c.slot_of-slot.ensures)
    (comes_left _ _ _ _ _ _ _ _ _ can c.slot_by-behind.result c.slot_by-behind.ensures.stands comes)

pub exchange-requires-clause-clause : goal.exchange-requires-clause-clause
exchange-requires-clause-clause c = slice_get_within _ _ _ c.get-lits.ensures

pub attach-requires-clause-below : goal.attach-requires-clause-below
attach-requires-clause-below c =
    let within : c.args.clause.0 < length c.self.inside.clauses.lists = slice_get_within _ _ _ c.get-lits.ensures in
    omega (arith, within, c.requires.from, c.self.invariant.are_slots.two_each, c.slot_of-slot.ensures, c.cut.ensures.slots)

pub attach-requires-clause-inside : goal.attach-requires-clause-inside
attach-requires-clause-inside c =
    let can = can_move _ _ _ _ _ _ _ _ _ _ some c.self.invariant.are_slots c.self.view_is c.requires.watched
    c.get-lits.ensures c.requires.from c.requires.to c.requires.within in
    rw (c.owner_of-taken.ensures, c.cut.ensures.lists, c.owner_of-left.ensures, c.slot_of-slot.ensures)
    (taken_inside _ _ _ _ _ _ _ _ _ can)

-- the lists where the slot is cut out, and where it is attached
off : (c : After-attach) → c.cut.new.self.lists ≡ lists_without c.self.inside.links.lists
    (place_of (get_or c.get-lits.result.now c.args.from some)) (2 * c.args.clause.0 + c.args.from)
off c =
    let left = place_of (get_or c.get-lits.result.now c.args.from some) in
    c.cut.ensures.lists
    ∙ ap (λ (owner : ℕ). lists_without c.self.inside.links.lists owner c.slot_of-slot.result) c.owner_of-left.ensures
    ∙ ap (lists_without c.self.inside.links.lists left) c.slot_of-slot.ensures

on : (c : After-attach) → c.attach.new.self.lists ≡ lists_with
    (lists_without c.self.inside.links.lists (place_of (get_or c.get-lits.result.now c.args.from some))
    (2 * c.args.clause.0 + c.args.from))
    (place_of (get_or c.get-lits.result.now c.args.to some)) (2 * c.args.clause.0 + c.args.from)
on c =
    let taken = place_of (get_or c.get-lits.result.now c.args.to some) in
    c.attach.ensures.lists
    ∙ ap (λ (owner : ℕ). lists_with c.cut.new.self.lists owner c.slot_of-slot.result) c.owner_of-taken.ensures
    ∙ ap (lists_with c.cut.new.self.lists taken) c.slot_of-slot.ensures
    ∙ ap (λ (lists : List (List ℕ)). lists_with lists taken (2 * c.args.clause.0 + c.args.from)) (off c)

pub invariant_of-self : goal.invariant_of-self
invariant_of-self c =
    let was = c.self.invariant in
    let lits = c.get-lits.result.now in
    let slot = 2 * c.args.clause.0 + c.args.from in
    let can = can_move _ _ _ _ _ _ _ _ _ _ some was.are_slots c.self.view_is c.requires.watched c.get-lits.ensures
    c.requires.from c.requires.to c.requires.within in
    let left = get_or lits c.args.from some in
    let taken = get_or lits c.args.to some in
    let clauses = c.exchange.ensures.lists lits left taken c.get-lits.ensures can.is_left can.is_taken in
    let slots : c.attach.new.self.slots ≡ c.self.inside.links.slots = c.attach.ensures.slots ∙ c.cut.ensures.slots in
    let free = subst (λ (s : ℕ). IsFree (lists_without c.self.inside.links.lists (place_of left) slot) s) c.slot_of-slot.ensures
    (subst (λ (lists : List (List ℕ)). IsFree lists c.slot_of-slot.result) (off c) c.cut.ensures.free) in
    record {
      are_slots = rw (clauses, slots, on c) (moved _ _ _ _ _ _ _ _ _ can free);
      few_lists = rw (on c) (omega (arith, was.few_lists, moved_length _ _ _ _ _ _ _ _ _ can));
      few_slots = rw slots was.few_slots;
      clauses_room = omega (arith, was.clauses_room, c.exchange.ensures.lists_left);
      links_room = omega (arith, was.links_room, c.attach.ensures.room, c.cut.ensures.room);
      lits_room = omega (arith, was.lits_room, c.exchange.ensures.lits_left);
    }

pub returns-clause-moved : goal.returns-clause-moved
returns-clause-moved c =
    let was = c.self.invariant in
    let lits = c.get-lits.result.now in
    let can = can_move _ _ _ _ _ _ _ _ _ _ some was.are_slots c.self.view_is c.requires.watched c.get-lits.ensures
    c.requires.from c.requires.to c.requires.within in
    let left = get_or lits c.args.from some in
    let taken = get_or lits c.args.to some in
    let clauses = c.exchange.ensures.lists lits left taken c.get-lits.ensures can.is_left can.is_taken in
    record {
      lits = lits;
      is_clause = ap (λ (a : Arena). slice_get a.clauses c.args.clause.0) (sym c.self.view_is) ∙ c.get-lits.ensures;
      left = left;
      taken = taken;
      is_left = can.is_left;
      is_taken = can.is_taken;
      clauses = clauses ∙ ap (λ (a : Arena). slice_set a.clauses c.args.clause.0
          (slice_set (slice_set lits c.args.from taken) c.args.to left)) c.self.view_is;
      watchers = ap clauses_of (on c) ∙ moved_watchers _ _ _ _ _ _ _ _ _ can
          ∙ ap (λ (a : Arena). lists_with (lists_without a.watchers (place_of left) c.args.clause.0) (place_of taken)
          c.args.clause.0) c.self.view_is;
    }
