-- The tables so far have their records, and the others are left.
use Rattle.std.proofs.Common.{◌≡◌, ◌++◌, length}
use Rattle.order_bind.proofs.OrderLemmas.{Resolves}
use Rattle.question_bind.specs.Steps.{parts_with, records_named}
use Rattle.question_bind.proofs.records.records_in.Given as goal

abbrev pub invariant-loop-tuples : goal.invariant-loop-tuples
invariant-loop-tuples l = record {
  all : l.yielded ++ l.tuples-iterator.rest.items ≡ l.fn.tables;
  count : length l.yielded ≡ length l.lists;
  so_far : Resolves (records_named l.names) (parts_with l.heads l.trees l.fn.tables) (length l.yielded) l.lists;
}
