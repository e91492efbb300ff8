use Rattle.std.proofs.Common.{Option, IfSome, subst, arith}
use Rattle.clause_arena.specs.declared.clause.ClauseNo.{ClauseNo}
use Rattle.clause_arena.specs.Arenas.{place_of}
use Rattle.clause_arena.specs.Slots.{IsWatching}
use Rattle.clause_arena.proofs.Sides.{watching_below}
use Rattle.clause_arena.proofs.watches.slot_by.Goals as goal

pub slot_of-requires : goal.slot_of-requires
slot_of-requires c =
    let watching : IsWatching c.args.links.now.lists (place_of c.args.lit) c.in-Some.clause.0 =
    subst (λ (o : Option ClauseNo). IfSome o (λ (n : ClauseNo). IsWatching c.args.links.now.lists (place_of c.args.lit) n.0))
    c.in-Some.is c.requires in
    omega (
      arith,
      watching_below _ _ _ _ c.are_whole.ensures.within watching,
      c.are_whole.ensures.few,
      c.side_by.ensures.low,
    )
