use Rattle.std.proofs.Common.{◌≡◌, ◌<◌, ℕ, Some, slice_get}
use Rattle.copy_functions.specs.declared.place.Place.{Place}
use Rattle.completion_check.specs.CopyBreaks.{NoPairBreaks}
use Rattle.completion_check.proofs.copy_search.first_broken.Given as goal

abbrev pub invariant-loop-at : goal.invariant-loop-at
invariant-loop-at l = (k : ℕ) (place : Place) → k < l.at → slice_get l.trial.copy.places k ≡ Some place
    → NoPairBreaks l.trial place
