-- The rows so far are kept.
use Rattle.std.proofs.Common.{◌≡◌, ◌<◌, ℕ, Some, slice_get}
use Rattle.currency_base.specs.declared.ids.RowId.{RowId}
use Rattle.edit_checks.specs.Mapped.{KeepsRow}
use Rattle.edit_checks.proofs.mapped.keeps_rows.Given as goal

abbrev pub invariant-loop-other : goal.invariant-loop-other
invariant-loop-other l = (k : ℕ) (other : RowId) → k < l.other-index → slice_get l.list k ≡ Some other
    → KeepsRow l.completion l.map l.place l.copied other
