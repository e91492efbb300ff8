use Rattle.std.proofs.Common.{◌≡◌, ◌+◌, length}
use Rattle.pair_numbers.specs.Pairs.{pairs_of}
use Rattle.pair_numbers.specs.Starts.{left_from, AreBefore}
use Rattle.pair_numbers.proofs.numbers.PairNumbers.new.Given as goal

abbrev pub invariant-loop-at : goal.invariant-loop-at
invariant-loop-at l = record {
  rows : length l.starts.items ≡ l.at;
  so_far : l.total + left_from l.fn.lists.entities l.at ≡ length (pairs_of l.fn.lists.entities);
  before : AreBefore l.fn.lists.entities l.starts.items l.at (length (pairs_of l.fn.lists.entities));
}
