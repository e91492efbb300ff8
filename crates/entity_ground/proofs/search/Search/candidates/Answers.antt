use Rattle.std.proofs.Common.{length, subst}
use Rattle.entity_ground.specs.Lookups.{Searched, AreCandidates}
use Rattle.entity_ground.proofs.Tested.{all_members}
use Rattle.entity_ground.proofs.Looked.{found_are, lookup_at}
use Rattle.entity_ground.proofs.search.Search.candidates.Goals as goal

pub returns-in-Some-Some : goal.returns-in-Some-Some
returns-in-Some-Some c =
    let own = c.self.inside in
    let front = c.args.front.now in
    let read = c.in-Some-Some.ensures.lookup in
    let is = lookup_at own.rule.now own.table.now own.members.now own.lookups.items c.deref.result.now (length front)
    c.in-Some-Some.field-0.now c.in-Some-Some.lookup
    c.self.invariant.are_lookups c.deref.ensures.value read.3.0 read.1 c.in-Some-Some.field-0-is in
    let found = found_are own.rule.now own.table.now own.members.now front c.found.result.now c.in-Some-Some.lookup
    is c.found.ensures in
    subst (λ (s : Searched). AreCandidates s.rule s.table s.members front c.found.result.now) c.self.view_is found

pub returns-in_default : goal.returns-in_default
returns-in_default c =
    let own = c.self.inside in
    subst (λ (s : Searched). AreCandidates s.rule s.table s.members c.args.front.now own.members.now) c.self.view_is
    (all_members own.rule.now own.table.now own.members.now c.args.front.now)
