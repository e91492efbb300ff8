use Rattle.std.proofs.Common.{◌∙◌, ◌+◌, ◌≤◌, ap, arith}
use Rattle.watch_links.specs.Links.{Links}
use Rattle.watch_links.specs.Chains.{AreLinked, no_slot, nexts, copies}
use Rattle.watch_links.proofs.Seen.{seen_of, seen_more, seen_past}
use Rattle.watch_links.proofs.WalkFacts.{closed, walks_are}
use Rattle.watch_links.proofs.links.WatchLinks.push_none.Goals as goal
use Rattle.watch_links.proofs.links.WatchLinks.push_none.Goals.{After-push_no_links}

linked : (c : After-push_no_links) → AreLinked c.self.inside.first.items (nexts c.push_no_links.new.links.items)
    (copies c.push_no_links.new.links.items)
    c.reserve.new.self.lists
linked c =
    let seen = seen_of _ _ _ _ c.self.invariant c.self.view_is in
    let room = ap (λ (v : Links). v.room) c.self.view_is in
    let slots = ap (λ (v : Links). v.slots) c.self.view_is in
    let few : c.reserve.new.self.slots + 2 ≤ no_slot = omega (arith, room, slots, c.in-Ok.ensures.ok) in
    seen_more _ _ _ _ _ _ seen few c.push_no_links.ensures.next c.push_no_links.ensures.copies

pub invariant_of-self : goal.invariant_of-self
invariant_of-self c = closed _ _ _ _ (linked c)

pub returns-clause-lists : goal.returns-clause-lists
returns-clause-lists c = walks_are _ _ _ _ (linked c) ∙ c.in-Ok.ensures.lists

pub returns-clause-free : goal.returns-clause-free
returns-clause-free c =
    let seen = seen_of _ _ _ _ c.self.invariant c.self.view_is in
    rw (walks_are _ _ _ _ (linked c), ← c.in-Ok.ensures.slots) (seen_past _ _ _ _ seen)
