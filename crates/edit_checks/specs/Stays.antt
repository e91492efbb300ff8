-- Completions over edits.
use Rattle.std.specs.Prelude.{◌≡◌, ◌<◌, ℕ, List, Ok, Some, slice_get}
use Rattle.currency_base.specs.declared.ids.RowId.{RowId}
use Rattle.currency_base.specs.declared.pair.Pair.{Pair}
use Rattle.spec_edits.specs.Edits.{edited}
use Rattle.spec_edits.specs.declared.edit.Edit.{Edit}
use Rattle.spec_model.specs.Completion.{Rankings}
use Rattle.spec_model.specs.Consistent.{IsConsistent}
use Rattle.spec_model.specs.Spec.{Spec}

-- a completion is consistent after an edit, where that is done
abbrev pub StaysConsistent : Spec → Edit → Rankings → Type 0
StaysConsistent s edit c = (t : Spec) → edited s edit ≡ Ok t → IsConsistent t c

-- the later row of a pair is in a list, at a place before which the earlier is not
pub record IsTurned (list : List RowId) (p : Pair) : Type 0 where
  pub at : ℕ
  pub here : slice_get list at ≡ Some p.later
  pub before : (k : ℕ) → k < at → slice_get list k ≡ Some p.earlier → ⊥
