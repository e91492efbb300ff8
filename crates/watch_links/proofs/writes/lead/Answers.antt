use Rattle.std.proofs.Common.{refl}
use Rattle.watch_links.proofs.LinkViews.{nexts_set, copies_kept}
use Rattle.watch_links.proofs.writes.lead.Goals as goal

pub returns-in-Some-clause-next : goal.returns-in-Some-clause-next
returns-in-Some-clause-next c = rw c.in-Some.is (nexts_set c.args.links.now.items c.in-Some.slot _)

pub returns-in-Some-clause-copies : goal.returns-in-Some-clause-copies
returns-in-Some-clause-copies c = copies_kept c.args.links.now.items c.in-Some.slot _ _ c.index_mut.ensures.value refl
