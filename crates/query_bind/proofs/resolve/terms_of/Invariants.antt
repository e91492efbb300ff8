-- The terms so far, in front of the others, are the whole.
use Rattle.std.proofs.Common.{◌≡◌, drop}
use Rattle.bind_faults.specs.Faults.{all_of}
use Rattle.query_bind.specs.Queried.{term_of}
use Rattle.query_bind.specs.Steps.{with_front}
use Rattle.query_bind.proofs.resolve.terms_of.Given as goal

abbrev pub invariant-loop-tree : goal.invariant-loop-tree
invariant-loop-tree l =
    with_front l.terms (all_of (term_of l.vars) (drop l.tree-index l.trees)) ≡ all_of (term_of l.vars) l.trees
