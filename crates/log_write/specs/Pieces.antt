-- The tokens of a log that is written, rule by rule of the grammar.
use Rattle.std.specs.Prelude.{ℕ, ◌+◌, ◌==◌, ◌&&◌, Bool, true, false, if◌then◌else◌, List, [], ◌∷◌, ◌++◌, length, slice_index_or, codes, pos, negsuc}
use Rattle.currency_base.specs.Literals.{is_negative, var_of}
use Rattle.currency_base.specs.declared.ids.AttrId.{AttrId}
use Rattle.currency_base.specs.declared.ids.EntId.{EntId}
use Rattle.currency_base.specs.declared.ids.RelId.{RelId}
use Rattle.currency_base.specs.declared.ids.RowId.{RowId}
use Rattle.currency_base.specs.declared.lit.Lit.{Lit}
use Rattle.currency_base.specs.declared.value.Value.{Value}
use Rattle.currency_base.specs.declared.value.Value.TheVariants as value
use Rattle.refutation_log.specs.declared.log.Log.{Log}
use Rattle.refutation_log.specs.declared.statement.Statement.{Statement}
use Rattle.refutation_log.specs.declared.statement.Statement.TheVariants.{Before, Top, Last, Answer}
use Rattle.refutation_log.specs.declared.step.Label.{Label}
use Rattle.refutation_log.specs.declared.step.Label.TheVariants as label
use Rattle.refutation_log.specs.declared.step.Step.{Step}
use Rattle.refutation_log.specs.declared.step.Step.TheVariants.{Axiom, OnDemand, Learn}
use Rattle.text_write.specs.Pieces.{Piece, symbol_piece, word_piece}
use Rattle.text_write.specs.Spelling.{value_piece}

-- ---- single tokens

-- this very word
abbrev pub word : List ℕ → List Piece
word text = word_piece text ∷ []

-- this very symbol
abbrev pub symbol : List ℕ → List Piece
symbol text = symbol_piece text ∷ []

-- a place, counted from 1
abbrev pub number_pieces : ℕ → List Piece
number_pieces n = value_piece (value.Int (pos (n + 1))) ∷ []

-- a literal: its statement's number, with a minus for the negation (`negsuc n` is -(n + 1))
abbrev pub lit_pieces : Lit → List Piece
lit_pieces l = value_piece (value.Int (if is_negative l then negsuc (var_of l) else pos (var_of l + 1))) ∷ []

-- ---- lists

-- one after another
abbrev pub many_pieces : {A : Type 0} → (A → List Piece) → List A → List Piece
many_pieces pieces [] = []
many_pieces pieces (x ∷ xs) = pieces x ++ many_pieces pieces xs

-- a row's number
abbrev pub row_pieces : RowId → List Piece
row_pieces row = number_pieces row.0

-- an entity's number
abbrev pub entity_pieces : EntId → List Piece
entity_pieces entity = number_pieces entity.0

-- a comma and a constant
abbrev pub further_pieces : Value → List Piece
further_pieces v = symbol (codes ",") ++ value_piece v ∷ []

-- constants with commas between them
abbrev pub constants_pieces : List Value → List Piece
constants_pieces [] = []
constants_pieces (v ∷ vs) = (value_piece v ∷ []) ++ many_pieces further_pieces vs

-- values in brackets
abbrev pub values_pieces : List Value → List Piece
values_pieces vs = symbol (codes "(") ++ constants_pieces vs ++ symbol (codes ")")

-- the numbers of a relation, of an attribute of it and of a row
abbrev pub cell_pieces : RelId → AttrId → RowId → List Piece
cell_pieces rel attr row = number_pieces rel.0 ++ number_pieces attr.0 ++ number_pieces row.0

-- the numbers of two rows
abbrev pub pair_pieces : RowId → RowId → List Piece
pair_pieces first second = number_pieces first.0 ++ number_pieces second.0

-- the numbers of a relation, of an attribute of it and of three rows
abbrev pub triple_pieces : RelId → AttrId → RowId → RowId → RowId → List Piece
triple_pieces rel attr first second third = cell_pieces rel attr first ++ pair_pieces second third

-- ---- steps

-- a label
abbrev pub label_pieces : Label → List Piece
label_pieces (label.Given rel attr earlier later) = word (codes "given") ++ cell_pieces rel attr earlier ++ number_pieces later.0
label_pieces (label.Transitive rel attr first second third) =
    word (codes "transitive") ++ triple_pieces rel attr first second third
label_pieces (label.Rule rule rows) = word (codes "rule") ++ number_pieces rule.0 ++ many_pieces row_pieces rows
label_pieces (label.Copy copy place first second) =
    word (codes "copy") ++ number_pieces copy.0 ++ number_pieces place ++ pair_pieces first second
label_pieces (label.Above rel attr row other) = word (codes "above") ++ cell_pieces rel attr row ++ number_pieces other.0
label_pieces (label.Top rel attr row) = word (codes "top") ++ cell_pieces rel attr row
label_pieces (label.Last rel attr row) = word (codes "last") ++ cell_pieces rel attr row
label_pieces (label.Value rel attr row) = word (codes "value") ++ cell_pieces rel attr row
label_pieces (label.Match disjunct entities values) =
    word (codes "match") ++ number_pieces disjunct ++ many_pieces entity_pieces entities ++ values_pieces values

-- the word of a clause that follows: `learn` where it is counted
abbrev pub kind_pieces : Bool → List Piece
kind_pieces true = word (codes "learn")
kind_pieces false = word (codes "derive")

-- a step
abbrev pub step_pieces : Step → List Piece
step_pieces (Axiom l lits) = word (codes "axiom") ++ (label_pieces l ++ (symbol (codes ":") ++ many_pieces lit_pieces lits))
step_pieces (OnDemand l lits) = word (codes "demand") ++ (label_pieces l ++ (symbol (codes ":") ++ many_pieces lit_pieces lits))
step_pieces (Learn lits hints counted) =
    kind_pieces counted ++ (many_pieces lit_pieces lits ++ (word (codes "by") ++ many_pieces number_pieces hints))

-- a step and its semicolon
abbrev pub ended_step_pieces : Step → List Piece
ended_step_pieces s = step_pieces s ++ symbol (codes ";")

-- ---- statements

-- a statement, where these are the answers
abbrev pub statement_pieces : List (List Value) → Statement → List Piece
statement_pieces answers (Before rel attr earlier later) =
    word (codes "before") ++ cell_pieces rel attr earlier ++ number_pieces later.0
statement_pieces answers (Top rel attr row) = word (codes "top") ++ cell_pieces rel attr row
statement_pieces answers (Last rel attr row) = word (codes "last") ++ cell_pieces rel attr row
statement_pieces answers (Answer tuple) = word (codes "answer") ++ values_pieces (slice_index_or answers tuple [])

-- the word `statement`, a statement and its semicolon
abbrev pub ended_statement_pieces : List (List Value) → Statement → List Piece
ended_statement_pieces answers s = word (codes "statement") ++ statement_pieces answers s ++ symbol (codes ";")

-- ---- logs

-- there is no statement and no step
abbrev pub is_empty : Log → Bool
is_empty log = (length log.statements == 0) && (length log.steps == 0)

-- the clauses of a log: its head, its statements and its steps
abbrev pub clause_pieces : Log → List Piece
clause_pieces log =
    word (codes "log") ++ symbol (codes ";")
    ++ many_pieces (ended_statement_pieces log.answers) log.statements ++ many_pieces ended_step_pieces log.steps

-- a log, where it has a statement or a step
abbrev pub log_pieces : Log → List Piece
log_pieces log = if is_empty log then [] else clause_pieces log
