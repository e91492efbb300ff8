-- A specification with the items that are marked.
use Rattle.std.specs.Prelude.{◌≡◌, ℕ, Bool, false, List, Some, slice_get, slice_index_or}
use Rattle.spec_model.specs.Spec.{Spec}
use Rattle.spec_items.specs.Items.{items_of}
use Rattle.spec_items.specs.Kept.{Keeps, kept}
use Rattle.spec_items.specs.declared.item.Item.{Item}
use Rattle.kept_items.specs.Alike.{AreAlike}

-- a place is marked
abbrev pub is_marked : List Bool → ℕ → Bool
is_marked marks place = slice_index_or marks place false

-- those items are kept that are marked, the marks being in the order of the items
abbrev pub KeepsMarked : List Item → List Bool → Keeps → Type 0
KeepsMarked items marks keeps = (place : ℕ) (i : Item) → slice_get items place ≡ Some i → keeps i ≡ is_marked marks place

-- a specification with the marked items of another
abbrev pub HasMarked : Spec → List Bool → Spec → Type 0
HasMarked s marks new = (keeps : Keeps) → KeepsMarked (items_of s) marks keeps → AreAlike new (kept keeps s)
