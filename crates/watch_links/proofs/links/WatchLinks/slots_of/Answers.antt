use Rattle.watch_links.proofs.WalkSteps.{walk_begins, walk_stands, walk_goes_on, walk_falls, walk_ends}
use Rattle.watch_links.proofs.links.WatchLinks.slots_of.Goals as goal

pub loop-at-init : goal.loop-at-init
loop-at-init c = walk_begins _ _ _ c.new-seen.ensures.items c.first-at.ensures

pub next-at-requires : goal.next-at-requires
next-at-requires c = c.are_whole.ensures.within c.args.owner c.in-Some.slot
    (walk_stands _ _ _ _ _ c.loop-at.invariant c.in-Some.is)

pub loop-at-smaller : goal.loop-at-smaller
loop-at-smaller c =
    let on = c.next-at.ensures c.args.owner (walk_stands _ _ _ _ _ c.loop-at.invariant c.in-Some.is) in
    walk_falls _ _ _ _ _ c.in-Some.slot (c.are_whole.ensures.once c.args.owner) c.loop-at.invariant c.in-Some.is on

pub loop-at-preserved : goal.loop-at-preserved
loop-at-preserved c =
    let on = c.next-at.ensures c.args.owner (walk_stands _ _ _ _ _ c.loop-at.invariant c.in-Some.is) in
    walk_goes_on _ _ _ _ _ _ c.in-Some.slot (c.are_whole.ensures.once c.args.owner) c.loop-at.invariant c.in-Some.is
    c.in-Ok.ensures.items on

pub returns : goal.returns
returns c = walk_ends _ _ _ _ c.loop-at.invariant c.in_default.is
