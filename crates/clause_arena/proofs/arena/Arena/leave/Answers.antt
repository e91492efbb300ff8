use Rattle.std.proofs.Common.{◌≡◌, ◌∙◌, ℕ, length, map, slice_set, ap, arith}
use Rattle.std.specs.List.{filter}
use Rattle.std.proofs.lemmas.List.{length-map, length-set}
use Rattle.currency_base.specs.declared.lit.Lit.{Lit}
use Rattle.watch_links.specs.Links.{list_of}
use Rattle.clause_arena.specs.Arenas.{Arena, is_other}
use Rattle.clause_arena.specs.Slots.{clause_of, clauses_of, is_of_other}
use Rattle.clause_arena.proofs.Dropped.{both_filtered, dropped, has_two}
use Rattle.clause_arena.proofs.Halves.{lists_filter_map}
use Rattle.clause_arena.proofs.arena.Arena.leave.Goals as goal
use Rattle.clause_arena.proofs.arena.Arena.leave.Goals.{After-drop_from-2}

abbrev some : Lit
some = record { 0 = 0 }

pub drop_from-requires : goal.drop_from-requires
drop_from-requires c =
    let two = has_two _ _ _ _ _ _ _ _ some c.self.invariant.are_slots c.self.view_is c.get-lits.ensures c.requires.long in
    rw c.owner_of-first.ensures two.first_within

pub drop_from-requires-2 : goal.drop_from-requires-2
drop_from-requires-2 c =
    let two = has_two _ _ _ _ _ _ _ _ some c.self.invariant.are_slots c.self.view_is c.get-lits.ensures c.requires.long in
    let lists = c.self.inside.links.lists in
    let as_many : length c.drop_from.new.links.lists ≡ length lists =
    ap length c.drop_from.ensures.lists ∙ length-set lists c.owner_of-first.result
    (filter (is_of_other c.args.clause.0) (list_of lists c.owner_of-first.result)) in
    omega (arith, two.second_within, c.owner_of-second.ensures, as_many)

-- all lists are without the clause's slots
left : (c : After-drop_from-2) → c.drop_from-2.new.links.lists ≡ map (filter (is_of_other c.args.clause.0))
    c.self.inside.links.lists
left c =
    let two = has_two _ _ _ _ _ _ _ _ some c.self.invariant.are_slots c.self.view_is c.get-lits.ensures c.requires.long in
    let lists = c.self.inside.links.lists in
    let one = c.drop_from.new.links.lists in
    both_filtered _ _ lists c.self.invariant.are_slots c.args.clause.0 _ _ _ c.get-lits.ensures two.is_first two.is_second one _
    two.first_within two.second_within
    (c.drop_from.ensures.lists ∙ ap (λ (owner : ℕ). slice_set lists owner
    (filter (is_of_other c.args.clause.0) (list_of lists owner))) c.owner_of-first.ensures)
    (c.drop_from-2.ensures.lists ∙ ap (λ (owner : ℕ). slice_set one owner
    (filter (is_of_other c.args.clause.0) (list_of one owner))) c.owner_of-second.ensures)

pub invariant_of-self : goal.invariant_of-self
invariant_of-self c =
    let was = c.self.invariant in
    let slots = c.drop_from-2.ensures.slots ∙ c.drop_from.ensures.slots in
    record {
      are_slots = rw (slots, left c) (dropped _ _ _ was.are_slots (is_other c.args.clause.0));
      few_lists = rw (left c) (omega (
        arith,
        was.few_lists,
        length-map c.self.inside.links.lists (filter (is_of_other c.args.clause.0)),
      ));
      few_slots = rw slots was.few_slots;
      clauses_room = was.clauses_room;
      links_room = omega (arith, was.links_room, c.drop_from.ensures.room, c.drop_from-2.ensures.room);
      lits_room = was.lits_room;
    }

pub returns-clause-watchers : goal.returns-clause-watchers
returns-clause-watchers c =
    ap clauses_of (left c)
    ∙ lists_filter_map clause_of (is_other c.args.clause.0) c.self.inside.links.lists
    ∙ ap (λ (a : Arena). map (filter (is_other c.args.clause.0)) a.watchers) c.self.view_is
