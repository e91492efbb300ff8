use Rattle.watch_links.proofs.LinkViews.{copy_read}
use Rattle.watch_links.proofs.Seen.{seen_of, stands_below, seen_owner_of}
use Rattle.watch_links.proofs.links.WatchLinks.owner.Goals as goal

pub returns : goal.returns
returns c owner stands =
    let w = c.self.inside in
    let seen = seen_of _ _ _ _ c.self.invariant c.self.view_is in
    let below = stands_below _ _ _ owner c.args.slot seen stands in
    let read = copy_read w.links.items c.args.slot c.index.result.now below c.index.ensures in
    seen_owner_of _ _ _ _ owner c.args.slot c.index.result.now.owner seen read stands
