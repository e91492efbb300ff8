-- The places so far are kept.
use Rattle.std.proofs.Common.{◌≡◌, ◌<◌, ℕ, Some, slice_get}
use Rattle.copy_functions.specs.declared.place.Place.{Place}
use Rattle.edit_checks.specs.Mapped.{KeepsPlace}
use Rattle.edit_checks.proofs.mapped.keeps_places.Given as goal

abbrev pub invariant-loop-place : goal.invariant-loop-place
invariant-loop-place l = (k : ℕ) (place : Place) → k < l.place-index → slice_get l.map.places k ≡ Some place
    → KeepsPlace l.spec.relations l.completion l.map l.copied place
