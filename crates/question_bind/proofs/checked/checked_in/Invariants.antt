-- The pairs so far are checked, and the others are left.
use Rattle.std.proofs.Common.{◌≡◌, ◌++◌, length}
use Rattle.order_bind.proofs.OrderLemmas.{Resolves}
use Rattle.question_bind.specs.Steps.{checked_named, parts_with}
use Rattle.question_bind.proofs.checked.checked_in.Given as goal

abbrev pub invariant-loop-pairs : goal.invariant-loop-pairs
invariant-loop-pairs l = record {
  all : l.yielded ++ l.pairs-iterator.rest.items ≡ l.fn.lists;
  count : length l.yielded ≡ length l.checked;
  so_far : Resolves (checked_named l.spec.relations) (parts_with l.heads l.trees l.fn.lists) (length l.yielded) l.checked;
}
