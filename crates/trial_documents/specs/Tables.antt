-- The tables of a specification of `size` entities: a head, and then the lines of each entity, in order.
use Rattle.std.specs.Prelude.{ℕ, ◌+◌, ◌/◌, ◌%◌, List, [], ◌∷◌, ◌++◌, codes, if◌then◌else◌}
use Rattle.std.specs.List.{flat_map, range_with_len}
use Rattle.trial_documents.specs.declared.cell.Attribute.TheVariants.{B, C}
use Rattle.trial_documents.specs.declared.cell.Cell.TheVariants.{Item, View, Entity, Number, Attribute}
use Rattle.trial_documents.specs.declared.table.Table.{Table}
use Rattle.trial_documents.specs.declared.table.Table.TheVariants.{Items, Views, Given, Copies, Asked}
use Rattle.trial_documents.specs.Lines.{line}
use Rattle.trial_documents.specs.Rows.{is_given, place_of, row_at}

-- lines for each number below n, in order
unfoldable pub each : ℕ → (ℕ → List ℕ) → List ℕ
each n lines = flat_map lines (range_with_len 0 n)

-- the item of row j of entity i
unfoldable pub item_line : ℕ → ℕ → List ℕ
item_line i j = line (Item i j ∷ Entity i ∷ Number (j / 2) ∷ Number (place_of i j) ∷ Number (place_of i j % 4) ∷ [])

-- the view of row j of entity i
unfoldable pub view_line : ℕ → ℕ → List ℕ
view_line i j = line (View i j ∷ Entity i ∷ Number (place_of i j % 4) ∷ [])

-- that view is copied from the item
unfoldable pub copy_line : ℕ → ℕ → List ℕ
copy_line i j = line (View i j ∷ Item i j ∷ [])

-- the items at the places q and q + 1 of entity i stand in this order by b: a line where this is given
unfoldable pub given_line : ℕ → ℕ → ℕ → List ℕ
given_line size i q = if is_given i q then line (Attribute B ∷ Item i (row_at size i q)
    ∷ Item i (row_at size i (q + 1)) ∷ []) else []

-- do the items at the first and the last place of entity i stand in this order by c?
unfoldable pub asked_line : ℕ → ℕ → List ℕ
asked_line size i = line (Attribute C ∷ Item i (row_at size i 0) ∷ Item i (row_at size i 7) ∷ [])

-- the lines of entity i
abbrev pub entity_lines : Table → ℕ → ℕ → List ℕ
entity_lines Items size i = each 8 (item_line i)
entity_lines Views size i = each 8 (view_line i)
entity_lines Given size i = each 7 (given_line size i)
entity_lines Copies size i = each 8 (copy_line i)
entity_lines Asked size i = asked_line size i

-- the name of a table's document
abbrev pub name_of : Table → List ℕ
name_of Items = codes "item.csv"
name_of Views = codes "view.csv"
name_of Given = codes "given.csv"
name_of Copies = codes "copy.csv"
name_of Asked = codes "asked.csv"

-- the head of a table
abbrev pub head_of : Table → List ℕ
head_of Items = codes "id,eid,a,b,c\n"
head_of Views = codes "id,eid,d\n"
head_of Given = codes "attribute,earlier,later\n"
head_of Copies = codes "target,source\n"
head_of Asked = codes "attribute,earlier,later\n"

-- a table
unfoldable pub table_text : Table → ℕ → List ℕ
table_text table size = head_of table ++ each size (entity_lines table size)
