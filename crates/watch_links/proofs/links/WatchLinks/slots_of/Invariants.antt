use Rattle.std.proofs.Common.{length}
use Rattle.watch_links.specs.Links.{list_of, rest_from}
use Rattle.watch_links.proofs.WalkSteps.{IsWalked}
use Rattle.watch_links.proofs.links.WatchLinks.slots_of.Given as goal

abbrev pub invariant-loop-at : goal.invariant-loop-at
invariant-loop-at l = IsWalked l.seen.items l.at (list_of l.self.lists l.owner) (list_of l.self.lists l.owner)

abbrev pub decreases-loop-at : goal.decreases-loop-at
decreases-loop-at l = length (rest_from l.at (list_of l.self.lists l.owner))
