-- The predicates so far, in front of what the other trees say, are the whole.
use Rattle.std.proofs.Common.{◌≡◌, drop}
use Rattle.bind_faults.specs.Faults.{all_of}
use Rattle.rule_bind.specs.Ruled.{predicate_of}
use Rattle.rule_bind.proofs.Walk.{with_front}
use Rattle.rule_bind.proofs.resolve.predicates_of.Given as goal

abbrev pub invariant-loop-tree : goal.invariant-loop-tree
invariant-loop-tree l =
    with_front l.predicates (all_of (predicate_of l.vars l.attrs) (drop l.tree-index l.trees)) ≡ all_of
    (predicate_of l.vars l.attrs) l.trees
