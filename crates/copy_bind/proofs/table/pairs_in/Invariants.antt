-- The pairs so far, in front of those of the tuples that are left, are the whole.
use Rattle.std.proofs.Common.{◌≡◌, ◌++◌, All}
use Rattle.copy_bind.specs.Copied.{pairs_from}
use Rattle.copy_bind.specs.Steps.{AreTexts}
use Rattle.copy_bind.proofs.table.pairs_in.Given as goal

abbrev pub invariant-loop-tuple : goal.invariant-loop-tuple
invariant-loop-tuple l = record {
  all : l.pairs ++ pairs_from l.number l.tuple-iterator.rest.items ≡ pairs_from 2 l.fn.tuples;
  texts : All AreTexts l.tuple-iterator.rest.items;
}
