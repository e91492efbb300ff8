use Rattle.value_names.proofs.Alike.{name_among, member_at, member_within}
use Rattle.value_names.proofs.names.name_of.Goals as goal

pub loop-other-init : goal.loop-other-init
loop-other-init c =
    name_among c.args.rows.now c.args.attr c.args.row c.args.lists.now.entities c.entity.result.0 c.requires.entities
    c.entity.ensures.value
    _ c.of_entity-members.ensures

pub have_one_value-requires-clause-other : goal.have_one_value-requires-clause-other
have_one_value-requires-clause-other c =
    member_within c.args.rows.now c.args.attr c.args.row c.args.lists.now.entities c.entity.result.0
    c.requires.entities c.entity.ensures.value
    _ c.loop-other.other-index _ c.of_entity-members.ensures c.loop-other-test.true

pub have_one_value-requires-clause-one_entity : goal.have_one_value-requires-clause-one_entity
have_one_value-requires-clause-one_entity c =
    member_at c.args.rows.now c.args.attr c.args.row c.args.lists.now.entities c.entity.result.0 c.requires.entities
    c.entity.ensures.value
    _ c.loop-other.other-index _ c.of_entity-members.ensures c.loop-other-test.true
