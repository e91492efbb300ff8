use Rattle.std.proofs.Common.{ap, arith, length}
use Rattle.order_squares.proofs.Grouped.{rows_few}
use Rattle.order_squares.proofs.groups.Groups.members.Goals as goal

pub returns-clause-few : goal.returns-clause-few
returns-clause-few c =
    let few = rows_few 0 c.lists-lists.result.now.entities c.args.ent.0 in
    omega (arith, few, c.rows.ensures.few, ap length c.of_entity.ensures)
