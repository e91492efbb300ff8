-- The heads so far, in front of those that are left, are the whole.
use Rattle.order_bind.proofs.OrderLemmas.{Resolves}
use Rattle.question_bind.specs.Steps.{head_named}
use Rattle.question_bind.proofs.heads.heads_of.Given as goal

abbrev pub invariant-loop-tree : goal.invariant-loop-tree
invariant-loop-tree l = Resolves (head_named l.names) l.trees l.tree-index l.heads
