use Rattle.entity_ground.proofs.Tested.{found_among}
use Rattle.entity_ground.proofs.search.add_grounds.Goals as goal

pub returns : goal.returns
returns c =
    let all = found_among c.args.rule.now c.args.relation.now.rows c.args.members.now in
    let found = c.add_from.ensures in
    rw (c.as_slice-table.ensures, all) at found
