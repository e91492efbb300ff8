-- Which of two rows a list has first.
use Rattle.std.specs.Prelude.{◌≡◌, ◌<◌, ℕ, List, Some, slice_get}
use Rattle.currency_base.specs.declared.ids.RowId.{RowId}

-- a row is in the list, at a place before which the other is not
pub record IsMetFirst (list : List RowId) (row other : RowId) : Type 0 where
  pub at : ℕ
  pub here : slice_get list at ≡ Some row
  pub before : (k : ℕ) → k < at → slice_get list k ≡ Some other → ⊥
