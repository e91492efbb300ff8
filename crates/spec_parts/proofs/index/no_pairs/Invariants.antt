use Rattle.std.proofs.Common.{◌≡◌, ℕ, [], length, slice_index_or}
use Rattle.spec_parts.proofs.index.no_pairs.Given as goal

abbrev pub invariant-loop-ent : goal.invariant-loop-ent
invariant-loop-ent l = record {
  many : length l.lists ≡ l._ent;
  empty : (ent : ℕ) → slice_index_or l.lists ent [] ≡ [];
}
