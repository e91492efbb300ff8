-- No predicate so far is refused.
use Rattle.std.proofs.Common.{◌≡◌, drop}
use Rattle.bind_faults.specs.Faults.{first_of}
use Rattle.spec_model.specs.Facts.{kinds_of}
use Rattle.rule_bind.specs.Ruled.{mismatch}
use Rattle.rule_bind.proofs.kinds.first_mismatch.Given as goal

abbrev pub invariant-loop-tree : goal.invariant-loop-tree
invariant-loop-tree l =
    first_of (mismatch l.attrs (kinds_of l.relation)) (drop l.tree-index l.trees) ≡ first_of
    (mismatch l.attrs (kinds_of l.relation)) l.trees
