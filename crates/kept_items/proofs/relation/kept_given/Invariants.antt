use Rattle.std.proofs.Common.{◌≡◌, ◌+◌, length, map}
use Rattle.std.specs.Map.Iter.{deref}
use Rattle.kept_items.specs.Steps.{marked}
use Rattle.kept_items.proofs.relation.kept_given.Given as goal

abbrev pub invariant-loop-pair : goal.invariant-loop-pair
invariant-loop-pair l = record {
  next : l.at ≡ l.initial.at + length l.yielded;
  kept : l.kept ≡ marked l.marks l.initial.at (map deref l.yielded);
}
