use Rattle.std.proofs.Common.{length, ap, arith}
use Rattle.flat_lists.proofs.Cuts.{length-cut_from}
use Rattle.flat_lists.proofs.lists.FlatLists.get.Goals as goal

pub span-start-requires-clause-within : goal.span-start-requires-clause-within
span-start-requires-clause-within g c =
    let whole = ap length c.self.view_is in
    let lists = length-cut_from 0 c.self.inside.ends.items c.self.inside.items.items in
    let ends = ap length c.deref-2.ensures.value in
    omega arith
