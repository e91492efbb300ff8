-- The tokens of items that are written, and what is told where a budget is spent.
use Rattle.std.specs.Prelude.{ℕ, List, [], ◌++◌, map, Option, Some, None, slice_get, slice_index_or, codes}
use Rattle.copy_functions.specs.Copies.{CopyFunction, source_at}
use Rattle.currency_base.specs.declared.ids.RowId.{RowId}
use Rattle.denial_rules.specs.declared.rule.Rule.{Rule}
use Rattle.log_write.specs.Pieces.{many_pieces, symbol, word}
use Rattle.report_model.specs.declared.report.Report.{Report}
use Rattle.report_write.specs.Pieces.{attribute_pieces, name, report_pieces, row_pieces}
use Rattle.spec_items.specs.declared.item.Item.{Item}
use Rattle.spec_items.specs.declared.item.Item.TheVariants as item
use Rattle.spec_model.specs.Spec.{Spec}
use Rattle.spec_model.specs.declared.question.Asked.{Asked}
use Rattle.spec_model.specs.declared.relation.Relation.{Relation}
use Rattle.text_write.specs.Pieces.{Piece, text_of}

-- ---- names

-- the name of a rule
abbrev pub rule_pieces : List Rule → ℕ → List Piece
rule_pieces rules rule = name (slice_index_or (map (λ r. r.name) rules) rule [])

-- the name of a copy function
abbrev pub copy_pieces : List CopyFunction → ℕ → List Piece
copy_pieces copies copy = name (slice_index_or (map (λ c. c.name) copies) copy [])

-- the name of a row of a relation, if there is one
abbrev pub source_pieces : List Relation → ℕ → Option RowId → List Piece
source_pieces relations rel None = []
source_pieces relations rel (Some row) = row_pieces relations rel row

-- the row of the target relation of a copy function, and the row of its source relation that it is copied from
abbrev pub mapping_pieces : List Relation → Option CopyFunction → RowId → List Piece
mapping_pieces relations None target = []
mapping_pieces relations (Some copy) target =
    row_pieces relations copy.target.0 target ++ word (codes "from")
    ++ source_pieces relations copy.source.0 (source_at copy target)

-- ---- items

-- "item" "given" REL "." ATTR ":" ROW "<" ROW ";"
abbrev pub given_pieces : List Relation → Asked → List Piece
given_pieces relations p =
    word (codes "item") ++ word (codes "given") ++ attribute_pieces relations p.rel.0 p.pair.attr.0 ++ symbol (codes ":")
    ++ row_pieces relations p.rel.0 p.pair.earlier ++ symbol (codes "<") ++ row_pieces relations p.rel.0 p.pair.later
    ++ symbol (codes ";")

-- "item" "rule" NAME ";"
abbrev pub ruled_pieces : List Rule → ℕ → List Piece
ruled_pieces rules rule = word (codes "item") ++ word (codes "rule") ++ rule_pieces rules rule ++ symbol (codes ";")

-- "item" "copy" NAME ":" ROW "from" ROW ";"
abbrev pub copied_pieces : Spec → ℕ → RowId → List Piece
copied_pieces s copy target =
    word (codes "item") ++ word (codes "copy") ++ copy_pieces s.copies copy ++ symbol (codes ":")
    ++ mapping_pieces s.relations (slice_get s.copies copy) target ++ symbol (codes ";")

-- an item
abbrev pub item_pieces : Spec → Item → List Piece
item_pieces s (item.Given rel p) = given_pieces s.relations (record { rel = rel; pair = p })
item_pieces s (item.Rule rule) = ruled_pieces s.rules rule.0
item_pieces s (item.Copy copy target) = copied_pieces s copy.0 target

-- items, a line each
abbrev pub items_pieces : Spec → List Item → List Piece
items_pieces s items = many_pieces (item_pieces s) items

-- ---- texts

-- the head of a text of this form: "currency" FORM "1" ";"
abbrev pub head_pieces : List ℕ → List Piece
head_pieces form = word (codes "currency") ++ word form ++ word (codes "1") ++ symbol (codes ";")

-- what is told where a budget is spent on a part: its items, and then the text of the report that says so, on these relations
abbrev pub spent_text : List ℕ → Spec → List Item → List Relation → Report → List ℕ
spent_text form s items relations report =
    text_of (head_pieces form ++ items_pieces s items) ++ text_of (report_pieces relations report)
