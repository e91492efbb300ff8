-- The disjuncts so far, in front of the others, are the whole.
use Rattle.std.proofs.Common.{◌≡◌, drop}
use Rattle.bind_faults.specs.Faults.{all_of}
use Rattle.query_bind.specs.Queried.{disjunct_of}
use Rattle.query_bind.specs.Steps.{with_front}
use Rattle.query_bind.proofs.resolve.disjuncts_of.Given as goal

abbrev pub invariant-loop-tree : goal.invariant-loop-tree
invariant-loop-tree l =
    with_front l.disjuncts (all_of (disjunct_of l.names l.head) (drop l.tree-index l.trees)) ≡ all_of
    (disjunct_of l.names l.head) l.trees
