-- The variables so far, before what is left, are the whole.
use Rattle.std.proofs.Common.{◌≡◌, drop}
use Rattle.std.specs.List.{fold}
use Rattle.query_bind.specs.Queried.{with_place}
use Rattle.query_bind.proofs.variables.add_places.Given as goal

abbrev pub invariant-loop-place : goal.invariant-loop-place
invariant-loop-place l =
    fold with_place l.vars (drop l.place-index l.places) ≡ fold with_place l.fn.vars l.places
