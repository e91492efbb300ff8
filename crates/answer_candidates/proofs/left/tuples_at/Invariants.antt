use Rattle.std.proofs.Common.{◌≡◌, [], map, slice_index_or, take}
use Rattle.answer_candidates.proofs.left.tuples_at.Given as goal

abbrev pub invariant-loop-at : goal.invariant-loop-at
invariant-loop-at l = l.found ≡ map (λ place. slice_index_or l.tuples place []) (take l.at l.places)
