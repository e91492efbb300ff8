use Rattle.std.proofs.Common.{◌≡◌, ◌<◌, ℕ, Some, slice_get}
use Rattle.copy_functions.specs.Copies.{CopyFunction}
use Rattle.completion_check.specs.CopyBreaks.{NoneBreaksCopy}
use Rattle.completion_check.proofs.copies.check_copies.Given as goal

abbrev pub invariant-loop-at : goal.invariant-loop-at
invariant-loop-at l = (k : ℕ) (copy : CopyFunction) → k < l.at → slice_get l.copies k ≡ Some copy
    → NoneBreaksCopy l.relations l.places copy
