-- The items of a part, and which items of the whole they are.
use Rattle.std.specs.Prelude.{List, [], Option, Some, None, slice_get}
use Rattle.currency_base.specs.declared.ids.RowId.{RowId}
use Rattle.currency_base.specs.declared.pair.Pair.{Pair}
use Rattle.copy_functions.specs.Copies.{CopyFunction}
use Rattle.part_laws.specs.Parts.{Places, rows_in, whole_row}
use Rattle.spec_items.specs.Kept.{Keeps}
use Rattle.spec_items.specs.declared.item.Item.{Item}
use Rattle.spec_items.specs.declared.item.Item.TheVariants as item

-- a pair of a part's rows, by their numbers in the whole
abbrev pub whole_pair : List RowId → Pair → Pair
whole_pair rows p = record { attr = p.attr; earlier = whole_row rows p.earlier; later = whole_row rows p.later }

-- the rows that a part has of the target relation of a copy function, if there is one
abbrev pub target_rows : Places → Option CopyFunction → List RowId
target_rows n None = []
target_rows n (Some copy) = rows_in n copy.target.0

-- the item of the whole that an item of a part is
abbrev pub whole_item : Places → List CopyFunction → Item → Item
whole_item n copies (item.Given rel p) = item.Given rel (whole_pair (rows_in n rel.0) p)
whole_item n copies (item.Rule k) = item.Rule k
whole_item n copies (item.Copy copy target) = item.Copy copy (whole_row (target_rows n (slice_get copies copy.0)) target)

-- the items of a part that are kept in the whole
abbrev pub kept_in : Places → List CopyFunction → Keeps → Keeps
kept_in n copies keeps = λ i. keeps (whole_item n copies i)
