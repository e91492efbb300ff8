use Rattle.watch_links.proofs.Seen.{seen_of, seen_whole}
use Rattle.watch_links.proofs.links.WatchLinks.are_whole.Goals as goal

pub returns : goal.returns
returns c = seen_whole _ _ _ _ (seen_of _ _ _ _ c.self.invariant c.self.view_is)
