use Rattle.std.proofs.Common.{◌≡◌, ◌++◌, map, take}
use Rattle.match_candidates.proofs.place_index.add_values.Given as goal

abbrev pub invariant-loop-value : goal.invariant-loop-value
invariant-loop-value l = l.entries.items ≡ l.initial.entries.items ++ map (λ v. record {
  value = v;
  ent =
      l.ent;
}) (take l.value-index l.values)
