-- Each table in turn is the next of all.
use Rattle.std.proofs.Common.{◌∙◌, ◌+◌, ap, arith, length}
use Rattle.std.proofs.lemmas.List.{length_push}
use Rattle.question_bind.proofs.TablesRead.{tables_all, tables_more, tables_refused}
use Rattle.question_bind.proofs.tables.tables_of.Goals as goal

pub returns-in-Err-clause-read : goal.returns-in-Err-clause-read
returns-in-Err-clause-read g c =
    tables_refused (g.S.Shelf.texts c.args.shelf.now) (g.S.Shelf.texts c.loop-tree.shelf) c.args.trees.now
    c.loop-tree.tree-index c.tree-item.result c.loop-tree.tables c.in-Err.fault
    c.loop-tree.invariant.kept c.loop-tree-test.true c.tree-item.is c.in-Err.ensures.read c.loop-tree.invariant.so_far

pub loop-tree-preserved : goal.loop-tree-preserved
loop-tree-preserved g c = record {
  kept = c.in-Ok.ensures.kept ∙ c.loop-tree.invariant.kept;
  later = omega (arith, c.in-Ok.ensures.later, c.loop-tree.invariant.later);
  count = ap length c.in-Ok-push.ensures.ok ∙ length_push c.loop-tree.tables c.in-Ok.tuples
      ∙ ap (λ n. n + 1) c.loop-tree.invariant.count;
  so_far = rw c.in-Ok-push.ensures.ok (tables_more (g.S.Shelf.texts c.args.shelf.now)
      (g.S.Shelf.texts c.loop-tree.shelf) c.args.trees.now c.loop-tree.tree-index c.tree-item.result
      c.loop-tree.tables c.in-Ok.tuples c.loop-tree.invariant.kept c.loop-tree-test.true c.tree-item.is
      (c.in-Ok.ensures.read tt) c.loop-tree.invariant.so_far);
}

pub returns-clause-read : goal.returns-clause-read
returns-clause-read g c =
    λ determined. tables_all (g.S.Shelf.texts c.args.shelf.now) c.args.trees.now c.loop-tree.tree-index
    c.loop-tree.tables c.loop-tree-test.false c.loop-tree.invariant.so_far
