-- The tuples so far have a record each, and the others are left.
use Rattle.std.proofs.Common.{◌≡◌, ◌++◌}
use Rattle.order_bind.specs.TableOrders.{record_in}
use Rattle.order_bind.proofs.Answered.{AreAnswered}
use Rattle.order_bind.proofs.tables.records.records_of.Given as goal

abbrev pub invariant-loop-tuple : goal.invariant-loop-tuple
invariant-loop-tuple l = record {
  all : l.yielded ++ l.tuple-iterator.rest.items ≡ l.fn.tuples;
  so_far : AreAnswered (record_in l.table l.attrs) l.yielded l.records;
}
