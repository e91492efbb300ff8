use Rattle.std.proofs.Common.{◌≡◌, ◌++◌, drop, map, option_map}
use Rattle.ucq_answers.specs.Partly.{values_of}
use Rattle.match_candidates.proofs.binding.Binding.values.Given as goal

abbrev pub invariant-loop-value : goal.invariant-loop-value
invariant-loop-value l =
    l.tuple ++ values_of (map (λ value. option_map (λ v. v.now) value) (drop l.value-index l.value-items)) ≡
    values_of (map (λ value. option_map (λ v. v.now) value) l.value-items)
