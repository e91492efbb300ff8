use Rattle.std.proofs.Common.{◌∙◌, arith}
use Rattle.spec_bind.proofs.Statements.{tree_refused, tree_table, bound_more, tables_more, tree_bound}
use Rattle.spec_bind.proofs.bind.bind_spec.Goals as goal

pub returns-in-Err-clause-bound : goal.returns-in-Err-clause-bound
returns-in-Err-clause-bound g c =
    λ determined. tree_refused (g.S.Shelf.texts c.args.shelf.now) (g.S.Shelf.texts c.loop-statement.shelf)
    c.loop-statement.bound c.args.tree.now
    c.as_slice-statement-items.result.now c.loop-statement.statement-index c.statement-item.result c.in-Err.fault
    c.loop-statement.invariant.kept
    c.loop-statement-test.true c.statement-item.is c.loop-statement.invariant.so_far c.in-Err.ensures.step determined

pub returns-in-Err-clause-table_due : goal.returns-in-Err-clause-table_due
returns-in-Err-clause-table_due g c =
    λ name fault. tree_table (g.S.Shelf.texts c.args.shelf.now) c.loop-statement.bound c.args.tree.now.statements
    c.as_slice-statement-items.result.now c.loop-statement.statement-index c.statement-item.result c.in-Err.fault
    c.loop-statement-test.true c.statement-item.is c.loop-statement.invariant.tables c.in-Err.ensures.table name fault

pub loop-statement-preserved : goal.loop-statement-preserved
loop-statement-preserved g c = record {
  kept = c.in-Ok.ensures.kept ∙ c.loop-statement.invariant.kept;
  later = omega (arith, c.in-Ok.ensures.later, c.loop-statement.invariant.later);
  so_far =
      bound_more (g.S.Shelf.texts c.args.shelf.now) (g.S.Shelf.texts c.loop-statement.shelf) c.loop-statement.bound
      c.in-Ok.next c.args.tree.now.statements
      c.as_slice-statement-items.result.now c.loop-statement.statement-index c.statement-item.result
      c.loop-statement.invariant.kept
      c.loop-statement-test.true c.statement-item.is (c.in-Ok.ensures.step tt) c.loop-statement.invariant.so_far;
  tables =
      tables_more (g.S.Shelf.texts c.args.shelf.now) (g.S.Shelf.texts c.loop-statement.shelf) c.loop-statement.bound
      c.in-Ok.next c.args.tree.now.statements
      c.as_slice-statement-items.result.now c.loop-statement.statement-index c.statement-item.result
      c.loop-statement.invariant.kept
      c.loop-statement-test.true c.statement-item.is (c.in-Ok.ensures.step tt) c.loop-statement.invariant.tables;
}

pub returns-clause-bound : goal.returns-clause-bound
returns-clause-bound g c =
    λ determined. tree_bound (g.S.Shelf.texts c.args.shelf.now) c.loop-statement.bound c.args.tree.now
    c.as_slice-statement-items.result.now
    c.loop-statement.statement-index c.within_limits.result (omega (arith, c.loop-statement-test.false))
    c.loop-statement.invariant.so_far
    c.within_limits.ensures.due determined
