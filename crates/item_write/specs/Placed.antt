-- What is there of an item.
use Rattle.std.specs.Prelude.{◌≡◌, ◌<◌, ℕ, Some, length, slice_get}
use Rattle.copy_functions.specs.Copies.{CopyFunction, source_at}
use Rattle.currency_base.specs.declared.ids.RowId.{RowId}
use Rattle.report_model.specs.Writable.{IsPairOf}
use Rattle.report_write.specs.Named.{IsRowOf}
use Rattle.spec_items.specs.declared.item.Item.{Item}
use Rattle.spec_items.specs.declared.item.Item.TheVariants as item
use Rattle.spec_model.specs.Spec.{Spec}

-- a copy function is there, and maps the row of its target relation to one of its source relation
pub record IsMapped (s : Spec) (copy : ℕ) (target : RowId) : Type 0 where
  pub function : CopyFunction
  pub is_function : slice_get s.copies copy ≡ Some function
  pub source : RowId
  pub is_mapped : source_at function target ≡ Some source
  pub in_target : IsRowOf s.relations function.target.0 target.0
  pub in_source : IsRowOf s.relations function.source.0 source.0

-- the pair's attribute and rows are there; the rule is there; the row is mapped
abbrev pub IsPlaced : Spec → Item → Type 0
IsPlaced s (item.Given rel p) = IsPairOf s.relations (record { rel = rel; pair = p })
IsPlaced s (item.Rule rule) = rule.0 < length s.rules
IsPlaced s (item.Copy copy target) = IsMapped s copy.0 target
