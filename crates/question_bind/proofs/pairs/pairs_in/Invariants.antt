-- The pairs so far, in front of those that are left, are the whole.
use Rattle.order_bind.proofs.OrderLemmas.{Resolves}
use Rattle.question_bind.specs.Steps.{pairs_named, parts_with}
use Rattle.question_bind.proofs.pairs.pairs_in.Given as goal

abbrev pub invariant-loop-place : goal.invariant-loop-place
invariant-loop-place l = Resolves (pairs_named l.names) (parts_with l.heads l.trees l.records) l.place l.lists
