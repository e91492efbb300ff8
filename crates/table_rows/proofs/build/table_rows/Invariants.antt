use Rattle.std.proofs.Common.{◌≡◌, ◌+◌, ◌^◌, ◌<◌, ◌++◌, length}
use Rattle.table_rows.proofs.SoFar.{IsSoFar}
use Rattle.table_rows.proofs.build.table_rows.Given as goal

abbrev pub invariant-loop-tuple : goal.invariant-loop-tuple
invariant-loop-tuple l = record {
  all : l.yielded ++ l.tuple-iterator.rest.items ≡ l.fn.tuples;
  few : length l.fn.tuples + 1 < 2 ^ 32;
  so_far : IsSoFar l.named l.yielded l.table;
}
