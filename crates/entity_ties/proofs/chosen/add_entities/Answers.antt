use Rattle.std.proofs.Common.{◌<◌, length, get_or, arith}
use Rattle.std.proofs.lemmas.Option.{slice_get-get_or}
use Rattle.entity_ties.specs.Numbers.{member}
use Rattle.entity_ties.proofs.Gathering.{gathered_more}
use Rattle.entity_ties.proofs.chosen.add_entities.Goals as goal

pub loop-member-preserved : goal.loop-member-preserved
loop-member-preserved c =
    let members = c.args.members.now in
    let i = c.loop-member.member-index in
    let below : i < length members = omega arith in
    gathered_more members i (get_or members i (member 0 0)) c.args.found.now c.loop-member.found c.put.new.lists
    (slice_get-get_or members i (member 0 0) below) c.loop-member.invariant c.in_ok-put.ensures
