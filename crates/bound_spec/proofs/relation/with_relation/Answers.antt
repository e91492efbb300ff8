use Rattle.std.proofs.Common.{arith}
use Rattle.bound_spec.proofs.Within.{room}
use Rattle.bound_spec.proofs.relation.with_relation.Goals as goal

pub overflow_add-rows : goal.overflow_add-rows
overflow_add-rows c =
    omega (
      arith,
      room c.bound.inside.spec c.args.bound c.args.relation c.bound.inside.rows c.len.result
          c.bound.view_is c.bound.invariant.rows_are c.len.ensures c.requires.within,
    )
