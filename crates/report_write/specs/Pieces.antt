-- The tokens of a report that is written, rule by rule of the grammar.
use Rattle.std.specs.Prelude.{ℕ, ◌+◌, ◌==◌, ◌&&◌, Bool, true, false, if◌then◌else◌, List, [], ◌∷◌, ◌++◌, map, Option, Some, None, slice_get, slice_index_or, codes}
use Rattle.std.specs.Fmt.{decimal}
use Rattle.completion_fill.specs.Filled.{merged}
use Rattle.currency_base.specs.declared.ids.RowId.{RowId}
use Rattle.log_write.specs.Pieces.{word, symbol, many_pieces, values_pieces, log_pieces}
use Rattle.spec_model.specs.Completion.{Rankings}
use Rattle.spec_model.specs.declared.relation.Relation.{Relation}
use Rattle.text_write.specs.Pieces.{Piece, word_piece}
use Rattle.text_write.specs.Spelling.{name_piece}
use Rattle.report_model.specs.declared.report.Report.{Report}
use Rattle.report_model.specs.declared.verdict.Current.{Current}
use Rattle.report_model.specs.declared.verdict.Verdict.{Verdict}
use Rattle.report_model.specs.declared.verdict.Verdict.TheVariants.{Inconsistent, Consistent, Certain, NotCertain, Same, NotSame, Answers, Undecided}

-- ---- names

-- the names of a relation's attributes, entities and rows; none where it is not there
abbrev pub attr_names : Option Relation → List (List ℕ)
attr_names None = []
attr_names (Some r) = map (λ a. a.name) r.attrs

abbrev pub entity_names : Option Relation → List (List ℕ)
entity_names None = []
entity_names (Some r) = r.entities

abbrev pub row_names : Option Relation → List (List ℕ)
row_names None = []
row_names (Some r) = map (λ row. row.name) r.rows

-- a name
abbrev pub name : List ℕ → List Piece
name bytes = name_piece bytes ∷ []

-- the name of a relation
abbrev pub relation_pieces : List Relation → ℕ → List Piece
relation_pieces relations rel = name (slice_index_or (map (λ r. r.name) relations) rel [])

-- the name of an entity of a relation
abbrev pub entity_pieces : List Relation → ℕ → ℕ → List Piece
entity_pieces relations rel ent = name (slice_index_or (entity_names (slice_get relations rel)) ent [])

-- the name of a row of a relation
abbrev pub row_pieces : List Relation → ℕ → RowId → List Piece
row_pieces relations rel row = name (slice_index_or (row_names (slice_get relations rel)) row.0 [])

-- attribute = name "." name
abbrev pub attribute_pieces : List Relation → ℕ → ℕ → List Piece
attribute_pieces relations rel attr =
    relation_pieces relations rel ++ symbol (codes ".") ++ name (slice_index_or (attr_names (slice_get relations rel)) attr [])

-- ---- verdicts

-- "current" name name values ";"
abbrev pub current_pieces : List Relation → Current → List Piece
current_pieces relations item =
    word (codes "current") ++ relation_pieces relations item.rel.0 ++ entity_pieces relations item.rel.0 item.ent.0
    ++ values_pieces item.values ++ symbol (codes ";")

-- a claim, with its items
abbrev pub claim_pieces : List Relation → Verdict → List Piece
claim_pieces relations Inconsistent = word (codes "inconsistent") ++ symbol (codes ";")
claim_pieces relations Consistent = word (codes "consistent") ++ symbol (codes ";")
claim_pieces relations Certain = word (codes "certain") ++ symbol (codes ";")
claim_pieces relations (NotCertain p) =
    word (codes "not") ++ word (codes "certain") ++ attribute_pieces relations p.rel.0 p.pair.attr.0 ++ symbol (codes ":")
    ++ row_pieces relations p.rel.0 p.pair.earlier ++ symbol (codes "<") ++ row_pieces relations p.rel.0 p.pair.later
    ++ symbol (codes ";")
claim_pieces relations (Same items) = word (codes "same") ++ symbol (codes ";") ++ many_pieces (current_pieces relations) items
claim_pieces relations (NotSame rel attr ent) =
    word (codes "not") ++ word (codes "same") ++ attribute_pieces relations rel.0 attr.0 ++ word (codes "of")
    ++ entity_pieces relations rel.0 ent.0 ++ symbol (codes ";")
claim_pieces relations (Answers tuples) =
    word (codes "answers") ++ symbol (codes ";") ++ many_pieces (λ tuple. word (codes "answer")
    ++ values_pieces tuple ++ symbol (codes ";")) tuples
claim_pieces relations (Undecided counted) = word (codes "undecided") ++ (word_piece (decimal counted) ∷ symbol (codes ";"))

-- ---- completions

-- a further row of a ranking
abbrev pub further_row_pieces : List Relation → ℕ → RowId → List Piece
further_row_pieces relations rel row = symbol (codes "<") ++ row_pieces relations rel row

-- the ranking of a place; a list with no row is not written
abbrev pub ranking_pieces : List Relation → ℕ → ℕ → ℕ → List RowId → List Piece
ranking_pieces relations rel attr ent [] = []
ranking_pieces relations rel attr ent (row ∷ rows) =
    word (codes "ranking") ++ attribute_pieces relations rel attr ++ word (codes "of") ++ entity_pieces relations rel ent
    ++ symbol (codes ":") ++ row_pieces relations rel row ++ many_pieces (further_row_pieces relations rel) rows
    ++ symbol (codes ";")

-- the rankings of an attribute of a relation, from an entity on
abbrev pub entity_rankings : List Relation → ℕ → ℕ → ℕ → List (List RowId) → List Piece
entity_rankings relations rel attr ent [] = []
entity_rankings relations rel attr ent (list ∷ lists) =
    ranking_pieces relations rel attr ent list ++ entity_rankings relations rel attr (ent + 1) lists

-- the rankings of a relation, from an attribute on
abbrev pub attr_rankings : List Relation → ℕ → ℕ → List (List (List RowId)) → List Piece
attr_rankings relations rel attr [] = []
attr_rankings relations rel attr (lists ∷ more) =
    entity_rankings relations rel attr 0 lists ++ attr_rankings relations rel (attr + 1) more

-- all rankings, from a relation on
abbrev pub rankings_pieces : List Relation → ℕ → Rankings → List Piece
rankings_pieces relations rel [] = []
rankings_pieces relations rel (lists ∷ more) = attr_rankings relations rel 0 lists ++ rankings_pieces relations (rel + 1) more

-- a completion with each ranking that has a row, in order of relation, attribute and entity
abbrev pub completion_pieces : List Relation → Rankings → List Piece
completion_pieces relations c = word (codes "completion") ++ symbol (codes ";") ++ rankings_pieces relations 0 c

-- two lists of rows are one
abbrev pub same_rows : List RowId → List RowId → Bool
same_rows [] [] = true
same_rows (a ∷ rows) (b ∷ others) = (a.0 == b.0) && same_rows rows others
same_rows rows others = false

-- a list, but none where it is another one
abbrev pub list_unless : List RowId → List RowId → List RowId
list_unless first list = if same_rows first list then [] else list

-- rankings, with no row where they are as the first ones
abbrev pub differing : Rankings → Rankings → Rankings
differing first c = merged (merged (merged list_unless)) first c

-- the first completion whole, and of each later one what differs from the first
abbrev pub completions_pieces : List Relation → List Rankings → List Piece
completions_pieces relations [] = []
completions_pieces relations (first ∷ more) =
    completion_pieces relations first ++ many_pieces (λ c. completion_pieces relations (differing first c)) more

-- ---- reports

-- the head of a report, or of a brief text, and its verdict and completions
abbrev pub shown_pieces : List ℕ → List Relation → Report → List Piece
shown_pieces form relations r =
    word (codes "currency") ++ word form ++ word (codes "2") ++ symbol (codes ";")
    ++ word (codes "verdict") ++ claim_pieces relations r.verdict ++ completions_pieces relations r.completions

-- a verdict with its items: what a brief text has between its head and its completions
abbrev pub verdict_pieces : List Relation → Verdict → List Piece
verdict_pieces relations v = word (codes "verdict") ++ claim_pieces relations v

-- report = "currency" "report" "2" ";" verdict { completion } [ log ] "end" ";"
abbrev pub report_pieces : List Relation → Report → List Piece
report_pieces relations r =
    shown_pieces (codes "report") relations r ++ log_pieces r.log ++ word (codes "end") ++ symbol (codes ";")

-- the same without the log, with `brief` in place of `report`
abbrev pub brief_pieces : List Relation → Report → List Piece
brief_pieces relations r = shown_pieces (codes "brief") relations r ++ word (codes "end") ++ symbol (codes ";")
