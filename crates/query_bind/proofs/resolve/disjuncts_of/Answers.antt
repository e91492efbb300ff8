-- A fault that is due of the next tree is due of all.
use Rattle.query_bind.specs.Queried.{disjunct_of}
use Rattle.query_bind.proofs.Walk.{walk_fault}
use Rattle.query_bind.proofs.resolve.disjuncts_of.Goals as goal

pub returns-in-Err : goal.returns-in-Err
returns-in-Err c =
    walk_fault (disjunct_of c.args.names.now c.args.head.now) c.args.trees.now c.loop-tree.tree-index
    c.loop-tree.disjuncts c.tree-item.result c.in-Err.fault
    c.loop-tree.invariant c.loop-tree-test.true c.tree-item.is c.in-Err.ensures
