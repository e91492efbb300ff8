use Rattle.std.proofs.Common.{length, ap, arith}
use Rattle.clause_arena.specs.Slots.{Clauses}
use Rattle.flat_lists.proofs.Cuts.{length-cut_from}
use Rattle.clause_arena.proofs.clause_lits.ClauseLits.get.Goals as goal

pub span-start-requires-clause-within : goal.span-start-requires-clause-within
span-start-requires-clause-within c =
    let whole = ap (λ (v : Clauses). length v.lists) c.self.view_is in
    let lists = length-cut_from 0 c.self.inside.ends.items c.self.inside.lits.items in
    let ends = ap length c.deref-2.ensures.value in
    omega arith
