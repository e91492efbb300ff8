use Rattle.std.proofs.Common.{◌≡◌, ◌++◌, drop}
use Rattle.copied_pairs.specs.Listing.{pairs_from}
use Rattle.copied_pairs.proofs.pairs.copied_pairs.Given as goal

abbrev pub invariant-loop-row : goal.invariant-loop-row
invariant-loop-row l =
    l.pairs ++ pairs_from l.copy l.source.rows l.lists.entities l.row (drop l.row l.lists.entities) ≡ pairs_from
    l.copy l.source.rows l.lists.entities 0 l.lists.entities
