-- The lines of tables.
use Rattle.std.specs.Prelude.{ℕ, List, [], ◌∷◌, ◌++◌, codes}
use Rattle.std.specs.Fmt.{decimal}
use Rattle.trial_documents.specs.declared.cell.Attribute.TheVariants.{B, C}
use Rattle.trial_documents.specs.declared.cell.Cell.{Cell}
use Rattle.trial_documents.specs.declared.cell.Cell.TheVariants.{Item, View, Entity, Number, Attribute}

-- the name of a row: the letter of its relation, its entity and its number there
abbrev pub row_name : List ℕ → ℕ → ℕ → List ℕ
row_name letter entity row = letter ++ decimal entity ++ codes "_" ++ decimal row

-- the name of an entity
abbrev pub entity_name : ℕ → List ℕ
entity_name entity = codes "e" ++ decimal entity

-- what is written in a cell
abbrev pub cell_text : Cell → List ℕ
cell_text (Item entity row) = row_name (codes "r") entity row
cell_text (View entity row) = row_name (codes "v") entity row
cell_text (Entity entity) = entity_name entity
cell_text (Number number) = decimal number
cell_text (Attribute B) = codes "b"
cell_text (Attribute C) = codes "c"

-- cells, each after a comma
abbrev pub further_cells : List Cell → List ℕ
further_cells [] = []
further_cells (cell ∷ cells) = codes "," ++ cell_text cell ++ further_cells cells

-- a line: cells with commas between them
abbrev pub line : List Cell → List ℕ
line [] = codes "\n"
line (cell ∷ cells) = cell_text cell ++ further_cells cells ++ codes "\n"
