-- The places so far are renumbered.
use Rattle.std.proofs.Common.{◌≡◌, map, take}
use Rattle.log_trim.specs.Trimmed.{rank}
use Rattle.log_trim.specs.Marked.{is_marked}
use Rattle.log_trim.proofs.copies.renumber_places.Given as goal

abbrev pub invariant-loop-place : goal.invariant-loop-place
invariant-loop-place l = l.list ≡ map (rank (is_marked l.steps)) (take l.place-index l.places)
