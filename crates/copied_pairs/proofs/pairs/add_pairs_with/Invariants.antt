use Rattle.std.proofs.Common.{◌≡◌, ◌++◌, drop}
use Rattle.copied_pairs.specs.Listing.{pairs_with}
use Rattle.copied_pairs.proofs.pairs.add_pairs_with.Given as goal

abbrev pub invariant-loop-second : goal.invariant-loop-second
invariant-loop-second l = l.pairs ++ pairs_with l.copy l.source l.first l.from (drop l.second-index l.rows) ≡
    l.fn.pairs ++ pairs_with l.copy l.source l.first l.from l.rows
