use Rattle.std.proofs.Common.{◌≡◌, take}
use Rattle.last_rows.proofs.derive.begun.Given as goal

abbrev pub invariant-loop-place : goal.invariant-loop-place
invariant-loop-place l = l.places.items ≡ take l.place-index l.list.top_places.items
