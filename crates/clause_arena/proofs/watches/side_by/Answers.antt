use Rattle.std.proofs.Common.{arith}
use Rattle.clause_arena.proofs.Sides.{watching_below}
use Rattle.clause_arena.proofs.watches.side_by.Goals as goal

pub slot_of-requires : goal.slot_of-requires
slot_of-requires c =
    omega (arith, watching_below _ _ _ _ c.are_whole.ensures.within c.requires, c.are_whole.ensures.few)

pub owner-requires : goal.owner-requires
owner-requires c =
    omega (arith, watching_below _ _ _ _ c.are_whole.ensures.within c.requires, c.slot_of.ensures)
