use Rattle.std.proofs.Common.{◌≡◌}
use Rattle.std.specs.List.{filter, range_with_len}
use Rattle.answer_candidates.specs.Candidates.{is_left}
use Rattle.answer_candidates.proofs.left.left.Given as goal

abbrev pub invariant-loop-place : goal.invariant-loop-place
invariant-loop-place l = l.places ≡ filter (is_left l.gone) (range_with_len 0 l.place)
