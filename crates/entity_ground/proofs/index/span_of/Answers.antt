use Rattle.entity_ground.proofs.Alike.{in_order, alike_rows}
use Rattle.entity_ground.proofs.index.span_of.Goals as goal

pub returns-clause-order : goal.returns-clause-order
returns-clause-order c =
    in_order c.args.table.now c.args.attr c.args.value.now c.args.by_value.now c.start_of-start.result
    c.end_of.result c.start_of-start.ensures.bound
    c.start_of-start.ensures.at c.end_of.ensures.at

pub returns-clause-rows : goal.returns-clause-rows
returns-clause-rows c =
    alike_rows c.args.table.now c.args.attr c.args.members.now c.args.by_value.now c.args.value.now
    c.start_of-start.result c.end_of.result c.requires
    c.start_of-start.ensures.bound c.end_of.ensures.bound c.start_of-start.ensures.at c.end_of.ensures.at
