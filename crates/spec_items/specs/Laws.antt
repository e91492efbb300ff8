-- Laws of items, as statements.
use Rattle.std.specs.Prelude.{◌≡◌, ◌↔◌, true, Contains}
use Rattle.spec_model.specs.Spec.{Spec}
use Rattle.spec_model.specs.Completion.{Rankings}
use Rattle.spec_model.specs.Consistent.{IsConsistent}
use Rattle.spec_items.specs.Items.{items_of}
use Rattle.spec_items.specs.Kept.{Keeps, kept}
use Rattle.spec_items.specs.declared.item.Item.{Item}

-- a consistent completion of more items is one of fewer
abbrev pub FewerItems : Type 0
FewerItems = (s : Spec) (keeps more : Keeps) → ((i : Item) → Contains (items_of s) i → keeps i ≡ true → more i ≡ true)
    → (c : Rankings) → IsConsistent (kept more s) c → IsConsistent (kept keeps s) c

-- with all items it is the specification
abbrev pub AllItems : Type 0
AllItems = (s : Spec) (keeps : Keeps) → ((i : Item) → Contains (items_of s) i → keeps i ≡ true) → (c : Rankings)
    → IsConsistent (kept keeps s) c ↔ IsConsistent s c
