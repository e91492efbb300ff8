use Rattle.std.proofs.Common.{◌≡◌, ◌<◌, ℕ, false, Some, slice_get}
use Rattle.currency_base.specs.declared.ids.RowId.{RowId}
use Rattle.completion_check.specs.CopyTests.{breaks_copy}
use Rattle.completion_check.proofs.copy_search.first_partner.Given as goal

abbrev pub invariant-loop-second : goal.invariant-loop-second
invariant-loop-second l = (k : ℕ) (row : RowId) → k < l.second-index → slice_get l.members k ≡ Some row
    → breaks_copy l.trial l.place l.first row ≡ false
