use Rattle.std.proofs.Common.{◌≡◌, map}
use Rattle.possible_values.specs.declared.candidates.Candidate.TheVariants as candidate
use Rattle.possible_values.proofs.candidates.of_matches.Given as goal

abbrev pub invariant-loop-one : goal.invariant-loop-one
invariant-loop-one l = l.list ≡ map (λ m. candidate.Match m) l.yielded
