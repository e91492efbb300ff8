use Rattle.std.proofs.Common.{replicate, []}
use Rattle.watch_links.specs.Chains.{nexts, copies, AreLinked}
use Rattle.watch_links.proofs.MoreSlots.{linked_new}
use Rattle.watch_links.proofs.WalkFacts.{closed, walks_are}
use Rattle.watch_links.proofs.links.WatchLinks.new.Goals as goal
use Rattle.watch_links.proofs.links.WatchLinks.new.Goals.{After-new}

linked : (c : After-new) → AreLinked c.in-Ok.first.items (nexts c.new.result.items) (copies c.new.result.items)
    (replicate c.args.owners [])
linked c = rw (c.in-Ok.ensures, c.new.ensures.items) (linked_new c.args.owners)

pub invariant_of-result : goal.invariant_of-result
invariant_of-result c = closed _ _ _ _ (linked c)

pub returns-clause-lists : goal.returns-clause-lists
returns-clause-lists c = walks_are _ _ _ _ (linked c)
