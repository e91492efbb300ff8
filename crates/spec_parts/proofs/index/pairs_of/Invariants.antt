use Rattle.std.proofs.Common.{map}
use Rattle.std.specs.Map.Iter.{deref}
use Rattle.spec_parts.proofs.Indexing.{IsIndexedSoFar}
use Rattle.spec_parts.proofs.index.pairs_of.Given as goal

abbrev pub invariant-loop-pair : goal.invariant-loop-pair
invariant-loop-pair l = IsIndexedSoFar l.relation (map deref l.yielded) l.lists
