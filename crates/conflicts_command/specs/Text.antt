-- The text of what is found of the smallest parts of a specification.
use Rattle.std.specs.Prelude.{◌++◌, ℕ, List, length, codes}
use Rattle.std.specs.Fmt.{decimal}
use Rattle.command_stages.specs.declared.done.Done.{Done}
use Rattle.command_stages.specs.declared.done.Ending.{Ending}
use Rattle.command_stages.specs.declared.done.Ending.TheVariants as ending
use Rattle.item_write.specs.Pieces.{head_pieces, items_pieces}
use Rattle.log_write.specs.Pieces.{many_pieces, symbol, word}
use Rattle.minimal_items.specs.Explanations.{needed_items}
use Rattle.part_conflicts.specs.declared.found.Conflict.{Conflict}
use Rattle.part_conflicts.specs.declared.found.Found.{Found}
use Rattle.part_conflicts.specs.declared.found.Found.TheVariants as found
use Rattle.report_model.specs.declared.report.Report.{Report}
use Rattle.report_write.specs.Pieces.{name, report_pieces}
use Rattle.spec_items.specs.Items.{items_of}
use Rattle.spec_items.specs.declared.item.Item.{Item}
use Rattle.spec_model.specs.Spec.{Spec}
use Rattle.spec_model.specs.declared.relation.Relation.{Relation}
use Rattle.text_write.specs.Pieces.{Piece, text_of}

-- ---- a part

-- "conflict" ENTITY "of" REL ";"
abbrev pub entity_line : List ℕ → List ℕ → List Piece
entity_line relation entity =
    word (codes "conflict") ++ name entity ++ word (codes "of") ++ name relation ++ symbol (codes ";")

-- a line for each entity of a relation
abbrev pub relation_lines : Relation → List Piece
relation_lines r = many_pieces (entity_line r.name) r.entities

-- a line for each entity of a part
abbrev pub entity_lines : Spec → List Piece
entity_lines s = many_pieces relation_lines s.relations

-- the entities of an inconsistent part, and the items that explain that it is
abbrev pub conflict_pieces : Conflict → List Piece
conflict_pieces c = entity_lines c.part ++ items_pieces c.part (needed_items c.needed)

-- ---- texts

-- the head of the text, then "conflicts" COUNT ";" { conflict } "end" ";"
abbrev pub conflicts_pieces : List Conflict → List Piece
conflicts_pieces list =
    head_pieces (codes "conflicts") ++ word (codes "conflicts") ++ word (decimal (length list)) ++ symbol (codes ";")
    ++ many_pieces conflict_pieces list ++ word (codes "end") ++ symbol (codes ";")

-- the text of the inconsistent parts
abbrev pub listed_text : List Conflict → List ℕ
listed_text list = text_of (conflicts_pieces list)

-- the text of a part for which the budget is spent: its entities, these items, and the report that says so, on these
-- relations
abbrev pub stopped_text : Spec → List Item → List Relation → Report → List ℕ
stopped_text part items relations report =
    text_of (head_pieces (codes "conflicts") ++ entity_lines part ++ items_pieces part items)
    ++ text_of (report_pieces relations report)

-- the text of what is found
abbrev pub conflicts_text : Found → List ℕ
conflicts_text (found.All list) = listed_text list
conflicts_text (found.Undecided part report) = stopped_text part (items_of part) part.relations report
conflicts_text (found.Open part spent) = stopped_text part spent.items spent.part.relations spent.report

-- how it ends: all is decided, also where no part is inconsistent; or the budget is spent
abbrev pub conflicts_ending : Found → Ending
conflicts_ending (found.All list) = ending.Decided
conflicts_ending (found.Undecided part report) = ending.Undecided
conflicts_ending (found.Open part spent) = ending.Undecided

-- what it comes to
abbrev pub conflicts_done : Found → Done
conflicts_done f = record { text = conflicts_text f; ending = conflicts_ending f }
