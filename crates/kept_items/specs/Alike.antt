-- Specifications that are alike: the same but for how their copy functions are written down.
use Rattle.std.specs.Prelude.{◌≡◌, ℕ, length, Some, slice_get}
use Rattle.currency_base.specs.declared.ids.RowId.{RowId}
use Rattle.copy_functions.specs.Copies.{CopyFunction, source_at}
use Rattle.spec_model.specs.Spec.{Spec}

-- two copy functions map the same rows to the same rows
pub record AreCopiesAlike (copy other : CopyFunction) : Type 0 where
  pub name : copy.name ≡ other.name
  pub target : copy.target ≡ other.target
  pub source : copy.source ≡ other.source
  pub places : copy.places ≡ other.places
  pub sources : (row : RowId) → source_at copy row ≡ source_at other row

-- two specifications have the same relations and rules, and copy functions that are so
pub record AreAlike (s other : Spec) : Type 0 where
  pub relations : s.relations ≡ other.relations
  pub rules : s.rules ≡ other.rules
  pub per_copy : length s.copies ≡ length other.copies
  pub copies : (k : ℕ) (copy another : CopyFunction) → slice_get s.copies k ≡ Some copy → slice_get other.copies k ≡ Some another
      → AreCopiesAlike copy another
