use Rattle.std.proofs.Common.{arith}
use Rattle.watch_links.specs.Links.{lists_without}
use Rattle.watch_links.specs.Chains.{nexts, copies, AreLinked}
use Rattle.watch_links.proofs.LinkViews.{next_read}
use Rattle.watch_links.proofs.SlotLists.{owner_within, coming_in}
use Rattle.watch_links.proofs.Seen.{seen_of, stands_below, comes_below, seen_owner, seen_cut, seen_free}
use Rattle.watch_links.proofs.WalkFacts.{closed, walks_are}
use Rattle.watch_links.proofs.links.WatchLinks.cut.Goals as goal
use Rattle.watch_links.proofs.links.WatchLinks.cut.Goals.{After-lead}

pub index-requires : goal.index-requires
index-requires c =
    let seen = seen_of _ _ _ _ c.self.invariant c.self.view_is in
    let below = stands_below _ _ _ c.args.owner c.args.slot seen (coming_in c.args.before _ _ c.requires) in
    omega (arith, below, c.self.inside.links.ok.0)

pub lead-requires-clause-inside : goal.lead-requires-clause-inside
lead-requires-clause-inside c =
    let seen = seen_of _ _ _ _ c.self.invariant c.self.view_is in
    seen_owner _ _ _ _ c.args.owner seen (owner_within _ c.args.owner c.args.slot (coming_in c.args.before _ _ c.requires))

pub lead-requires-clause-below : goal.lead-requires-clause-below
lead-requires-clause-below c =
    let seen = seen_of _ _ _ _ c.self.invariant c.self.view_is in
    comes_below _ _ _ c.args.owner c.args.slot c.args.before seen c.requires

linked : (c : After-lead) → AreLinked c.lead.new.firsts.items (nexts c.lead.new.links.items)
    (copies c.lead.new.links.items) (lists_without c.args.self.now.lists c.args.owner c.args.slot)
linked c =
    let link = c.index.result.now in
    let seen = seen_of _ _ _ _ c.self.invariant c.self.view_is in
    let below = stands_below _ _ _ c.args.owner c.args.slot seen (coming_in c.args.before _ _ c.requires) in
    let after = next_read c.self.inside.links.items c.args.slot link below c.index.ensures in
    seen_cut _ _ _ _ _ _ _ c.args.owner c.args.slot link.next c.args.before seen c.requires after
    c.lead.ensures.firsts c.lead.ensures.next c.lead.ensures.copies

pub invariant_of-self : goal.invariant_of-self
invariant_of-self c = closed _ _ _ _ (linked c)

pub returns-clause-lists : goal.returns-clause-lists
returns-clause-lists c = walks_are _ _ _ _ (linked c)

pub returns-clause-free : goal.returns-clause-free
returns-clause-free c =
    let seen = seen_of _ _ _ _ c.self.invariant c.self.view_is in
    rw (walks_are _ _ _ _ (linked c)) (seen_free _ _ _ _ c.args.owner c.args.slot seen (coming_in c.args.before _ _ c.requires))
