-- The numbers so far, in front of the others, are the whole.
use Rattle.std.proofs.Common.{◌≡◌, drop}
use Rattle.bind_faults.specs.Faults.{all_of}
use Rattle.query_bind.specs.Queried.{var_named}
use Rattle.query_bind.specs.Steps.{with_front}
use Rattle.query_bind.proofs.resolve.vars_named.Given as goal

abbrev pub invariant-loop-tree : goal.invariant-loop-tree
invariant-loop-tree l =
    with_front l.numbers (all_of (var_named l.vars) (drop l.tree-index l.trees)) ≡ all_of (var_named l.vars) l.trees
