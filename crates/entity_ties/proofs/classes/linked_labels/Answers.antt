use Rattle.std.proofs.Common.{◌<◌, length, get_or, arith, rules}
use Rattle.std.proofs.lemmas.Option.{slice_get-get_or}
use Rattle.entity_ties.specs.declared.links.Link.{Link}
use Rattle.entity_ties.proofs.Linked.{so_far_none, so_far_more, so_far_all}
use Rattle.entity_ties.proofs.classes.linked_labels.Goals as goal

pub loop-link-init : goal.loop-link-init
loop-link-init c = so_far_none c.args.count c.args.links.now c.single.new.labels.items c.single.new.members (search rules)

pub loop-link-preserved : goal.loop-link-preserved
loop-link-preserved c =
    let links = c.args.links.now in
    let i = c.loop-link.link-index in
    let below : i < length links = omega arith in
    let link : Link = get_or links i (record { one = 0; other = 0 }) in
    so_far_more c.args.count i links link c.loop-link.labels.items c.join.new.labels.items c.loop-link.members c.join.new.members
    (slice_get-get_or links i (record { one = 0; other = 0 }) below) c.requires.within c.loop-link.invariant
    c.in_ok-join.ensures.joined c.in_ok-join.ensures.classes

pub returns-clause-labels : goal.returns-clause-labels
returns-clause-labels c =
    so_far_all c.args.count c.loop-link.link-index c.args.links.now c.loop-link.labels.items c.loop-link.members
    (omega arith) c.loop-link.invariant
