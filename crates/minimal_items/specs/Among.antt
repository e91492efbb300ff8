-- Items among others.
use Rattle.std.specs.Prelude.{◌==◌, Bool, false, List, [], ◌∷◌, not, ◌&&◌, if◌then◌else◌}
use Rattle.std.specs.List.{list_any}
use Rattle.spec_items.specs.Kept.{Keeps}
use Rattle.spec_items.specs.declared.item.Item.{Item}
use Rattle.spec_items.specs.declared.item.Item.TheVariants as item

-- two items are one
abbrev pub same_item : Item → Item → Bool
same_item (item.Given rel p) (item.Given other q) =
    (rel.0 == other.0) && (p.attr.0 == q.attr.0) && (p.earlier.0 == q.earlier.0) && (p.later.0 == q.later.0)
same_item (item.Rule k) (item.Rule other) = k.0 == other.0
same_item (item.Copy copy target) (item.Copy other row) = (copy.0 == other.0) && (target.0 == row.0)
same_item i other = false

-- an item is one of these
abbrev pub among : List Item → Keeps
among items = λ i. list_any (same_item i) items

-- it is another one of these than that
abbrev pub among_but : Item → List Item → Keeps
among_but it items = λ i. among items i && not (same_item it i)

-- the items that are marked, the marks being in the order of the items
abbrev pub marked_items : List Item → List Bool → List Item
marked_items [] marks = []
marked_items (i ∷ items) [] = []
marked_items (i ∷ items) (m ∷ marks) = if m then i ∷ marked_items items marks else marked_items items marks
