use Rattle.std.proofs.Common.{◌≡◌, take}
use Rattle.spec_duplicates.proofs.copies.copied_places.Given as goal

abbrev pub invariant-loop-place : goal.invariant-loop-place
invariant-loop-place l = l.list ≡ take l.place-index l.places
