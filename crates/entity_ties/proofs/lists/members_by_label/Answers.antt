use Rattle.std.proofs.Common.{◌<◌, length, get_or, arith}
use Rattle.std.proofs.lemmas.Option.{slice_get-get_or}
use Rattle.entity_ties.specs.Numbers.{member}
use Rattle.entity_ties.proofs.Putting.{parts_more, parts_all}
use Rattle.entity_ties.proofs.lists.members_by_label.Goals as goal

pub loop-place-preserved : goal.loop-place-preserved
loop-place-preserved c =
    let members = c.args.members.now in
    let labels = c.args.labels.now in
    let i = c.loop-place.place in
    let in_members : i < length members = omega arith in
    let in_labels : i < length labels = omega arith in
    parts_more members labels c.args.count i (get_or labels i 0) (get_or members i (member 0 0)) c.loop-place.parts
    c.put.new.lists
    (slice_get-get_or members i (member 0 0) in_members) (slice_get-get_or labels i 0 in_labels)
    c.loop-place.invariant c.in_ok-put.ensures

pub returns : goal.returns
returns c = parts_all c.args.members.now c.args.labels.now c.args.count c.loop-place.place c.loop-place.parts
    (omega arith) c.loop-place.invariant
