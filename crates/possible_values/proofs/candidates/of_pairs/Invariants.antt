use Rattle.std.proofs.Common.{◌≡◌, ◌++◌, drop, map}
use Rattle.possible_values.specs.declared.candidates.Candidate.TheVariants as candidate
use Rattle.possible_values.proofs.candidates.of_pairs.Given as goal

abbrev pub invariant-loop-pair : goal.invariant-loop-pair
invariant-loop-pair l =
    l.list ++ map (λ p. candidate.Pair p) (drop l.pair-index l.pairs) ≡ map (λ p. candidate.Pair p) l.pairs
