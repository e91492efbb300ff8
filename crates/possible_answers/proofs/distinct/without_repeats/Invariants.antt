use Rattle.std.proofs.Common.{◌≡◌, ◌-◌, ◌++◌, None, length, slice_get}
use Rattle.possible_answers.specs.Distinct.{distinct_after}
use Rattle.possible_answers.proofs.distinct.without_repeats.Given as goal

abbrev pub invariant-loop-tuple : goal.invariant-loop-tuple
invariant-loop-tuple l =
    l.list ++ distinct_after (slice_get l.list (length l.list - 1)) l.tuple-iterator.rest.items
    ≡ distinct_after None l.fn.tuples.items
