use Rattle.std.proofs.Common.{◌∙◌, true, false, refl, sym}
use Rattle.clause_arena.proofs.Dropped.{drop_begins, drop_comes, drop_stands, drop_goes_on, drop_falls, drop_ends}
use Rattle.clause_arena.proofs.leaving.drop_from.Goals as goal

pub loop-at-init : goal.loop-at-init
loop-at-init c =
    record {
      dropping = drop_begins _ _ _ _ c.requires c.first-at.ensures;
      slots = refl;
      room = refl;
    }

pub next-at-requires : goal.next-at-requires
next-at-requires c =
    c.are_whole.ensures.within c.args.owner c.in-Some.slot (drop_stands _ _ _ _ _ _ _ c.loop-at.invariant.dropping c.in-Some.is)

pub drop_slot-requires : goal.drop_slot-requires
drop_slot-requires c = drop_comes _ _ _ _ _ _ _ c.loop-at.invariant.dropping c.in-Some.is

-- the slot stays
pub loop-at-smaller-then-drop_slot : goal.loop-at-smaller-then-drop_slot
loop-at-smaller-then-drop_slot c =
    let dropping = c.loop-at.invariant.dropping in
    let on = c.next-at.ensures c.args.owner (drop_stands _ _ _ _ _ _ _ dropping c.in-Some.is) in
    drop_falls _ _ _ _ _ _ _ _ c.in-Some.slot dropping c.in-Some.is (c.are_whole.ensures.once c.args.owner) on
    c.drop_slot.ensures.lists

pub loop-at-preserved-then-drop_slot : goal.loop-at-preserved-then-drop_slot
loop-at-preserved-then-drop_slot c =
    let dropping = c.loop-at.invariant.dropping in
    let on = c.next-at.ensures c.args.owner (drop_stands _ _ _ _ _ _ _ dropping c.in-Some.is) in
    record {
      dropping = drop_goes_on _ _ _ _ _ _ _ _ c.in-Some.slot dropping c.in-Some.is
          (c.are_whole.ensures.once c.args.owner) on c.drop_slot.ensures.lists true
          (sym c.if-drop_slot.true ∙ c.drop_slot.ensures.stays);
      slots = c.drop_slot.ensures.slots ∙ c.loop-at.invariant.slots;
      room = c.drop_slot.ensures.room ∙ c.loop-at.invariant.room;
    }

-- it is cut out
pub loop-at-smaller : goal.loop-at-smaller
loop-at-smaller c =
    let dropping = c.loop-at.invariant.dropping in
    let on = c.next-at.ensures c.args.owner (drop_stands _ _ _ _ _ _ _ dropping c.in-Some.is) in
    drop_falls _ _ _ _ _ _ _ _ c.in-Some.slot dropping c.in-Some.is (c.are_whole.ensures.once c.args.owner) on
    c.drop_slot.ensures.lists

pub loop-at-preserved : goal.loop-at-preserved
loop-at-preserved c =
    let dropping = c.loop-at.invariant.dropping in
    let on = c.next-at.ensures c.args.owner (drop_stands _ _ _ _ _ _ _ dropping c.in-Some.is) in
    record {
      dropping = drop_goes_on _ _ _ _ _ _ _ _ c.in-Some.slot dropping c.in-Some.is
          (c.are_whole.ensures.once c.args.owner) on c.drop_slot.ensures.lists false
          (sym c.if-drop_slot.false ∙ c.drop_slot.ensures.stays);
      slots = c.drop_slot.ensures.slots ∙ c.loop-at.invariant.slots;
      room = c.drop_slot.ensures.room ∙ c.loop-at.invariant.room;
    }

pub returns-clause-lists : goal.returns-clause-lists
returns-clause-lists c = drop_ends _ _ _ _ _ _ c.loop-at.invariant.dropping c.in_default.is
