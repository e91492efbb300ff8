use Rattle.std.proofs.Common.{◌∙◌}
use Rattle.std.proofs.lemmas.List.{get_or_read}
use Rattle.watch_links.specs.Links.{lists_with}
use Rattle.watch_links.specs.Chains.{nexts, copies, AreLinked}
use Rattle.watch_links.proofs.Seen.{seen_of, seen_owner, seen_on}
use Rattle.watch_links.proofs.WalkFacts.{closed, walks_are}
use Rattle.watch_links.proofs.links.WatchLinks.attach.Goals as goal
use Rattle.watch_links.proofs.links.WatchLinks.attach.Goals.{After-lead}

pub lead-requires-clause-inside : goal.lead-requires-clause-inside
lead-requires-clause-inside c =
    seen_owner _ _ _ _ c.args.owner (seen_of _ _ _ _ c.self.invariant c.self.view_is) c.requires.inside

linked : (c : After-lead) → AreLinked c.lead.new.firsts.items (nexts c.lead.new.links.items) (copies c.lead.new.links.items)
    (lists_with c.args.self.now.lists c.args.owner c.args.slot)
linked c =
    let first = c.index-first.result.now in
    let seen = seen_of _ _ _ _ c.self.invariant c.self.view_is in
    let inside = seen_owner _ _ _ _ c.args.owner seen c.requires.inside in
    let is_first = get_or_read c.self.inside.first.items c.args.owner first inside c.index-first.ensures 0 in
    seen_on _ _ _ _ _ _ _ c.args.owner c.args.slot first seen c.requires.free c.requires.below c.requires.inside is_first
    (c.lead.ensures.next ∙ c.write_link.ensures.next) (c.lead.ensures.copies ∙ c.write_link.ensures.copies) c.lead.ensures.firsts

pub invariant_of-self : goal.invariant_of-self
invariant_of-self c = closed _ _ _ _ (linked c)

pub returns-clause-lists : goal.returns-clause-lists
returns-clause-lists c = walks_are _ _ _ _ (linked c)
