use Rattle.std.proofs.Common.{◌≡◌, Some, get_or, take}
use Rattle.std.proofs.lemmas.List.{take_more}
use Rattle.std.proofs.lemmas.List.Elements.{All-get_or}
use Rattle.entity_ties.specs.Labels.{cell, label_of}
use Rattle.entity_ties.specs.declared.cells.Member.{Member}
use Rattle.known_models.proofs.Finding.{all_more, there}
use Rattle.known_models.proofs.ranking.rank_members.Goals as goal

pub loop-member-preserved : goal.loop-member-preserved
loop-member-preserved c =
    let p = c.args.parted.now in
    let members = c.args.members.now in
    let at = c.loop-member.member-index in
    let none : Member = record { rel = record { 0 = 0 }; ent = record { 0 = 0 } } in
    let m = get_or members at none in
    let of = All-get_or (λ (m : Member). label_of p.ties (cell m.rel.0 m.ent.0) ≡ Some c.args.part) members at none
    c.loop-member-test.true c.requires.members in
    let is = there p m.rel.0 m.ent.0 c.args.part c.facts.ensures.ties of in
    rw (take_more members at none c.loop-member-test.true)
    (all_more p c.args.part c.args.truths.now (take at members) m c.loop-member.draft c.rank_entity.new.draft is.relation
    is.is_relation c.loop-member.invariant (c.in_ok-rank_entity.ensures is.relation is.is_relation))
