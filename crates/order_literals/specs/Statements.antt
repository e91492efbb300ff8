-- The statements that are numbered, in the order of their numbers.
use Rattle.std.specs.Prelude.{◌+◌, ℕ, List, [], ◌∷◌, ◌++◌, Option, Some, None, map, length, slice_get, slice_index_or}
use Rattle.std.specs.List.{flat_map, range_with_len}
use Rattle.std.specs.Cmp.Lexicographic.{slice_cmp}
use Rattle.std.specs.Ordering.{nat_cmp}
use Rattle.std.specs.declared.cmp.Ordering.{Ordering}
use Rattle.currency_base.specs.declared.ids.AttrId.{AttrId}
use Rattle.currency_base.specs.declared.ids.RelId.{RelId}
use Rattle.currency_base.specs.declared.ids.RowId.{RowId}
use Rattle.pair_numbers.specs.Pairs.{pairs_of}
use Rattle.value_names.specs.Names.{row_ids, firsts_of}
use Rattle.refutation_log.specs.declared.statement.Statement.{Statement}
use Rattle.refutation_log.specs.declared.statement.Statement.TheVariants as says
use Rattle.order_literals.specs.declared.block.Block.{Block}
use Rattle.order_literals.specs.declared.block.Block.TheVariants.{Pairs, Tops, Lasts, Answers}
use Rattle.order_literals.specs.Numbers.{Numbered, Numbers}

-- ---- blocks of statements: of one kind, relation and attribute

-- a block for each attribute of these relations, of which the first has this number
abbrev pub blocks_from : (RelId → AttrId → Block) → ℕ → List Numbered → List Block
blocks_from make rel [] = []
blocks_from make rel (t ∷ tables) =
    map (λ attr. make (record { 0 = rel }) (record { 0 = attr })) (range_with_len 0 t.attrs) ++ blocks_from make (rel + 1) tables

-- the blocks: by kind, then by relation, then by attribute
abbrev pub blocks_of : Numbers → List Block
blocks_of n = blocks_from Pairs 0 n.tables ++ blocks_from Tops 0 n.tables ++ blocks_from Lasts 0 n.tables ++ Answers ∷ []

-- the statements on the pairs of rows of one entity
abbrev pub pair_statements : RelId → AttrId → Option Numbered → List Statement
pair_statements rel attr None = []
pair_statements rel attr (Some t) = map (λ p. says.Before rel attr p.earlier p.later) (pairs_of t.rows.entities)

-- the rows whose standing last is numbered
abbrev pub wanted_rows : Numbered → Option (List (List RowId)) → List RowId
wanted_rows t None = []
wanted_rows t (Some names) = row_ids (length t.rows.entities)

-- the statements that a row stands last
abbrev pub top_statements : RelId → AttrId → Option Numbered → List Statement
top_statements rel attr None = []
top_statements rel attr (Some t) = map (says.Top rel attr) (wanted_rows t t.names)

-- the rows that name the values whose being current is numbered
abbrev pub wanted_values : AttrId → Option (List (List RowId)) → List RowId
wanted_values attr None = []
wanted_values attr (Some names) = firsts_of (slice_index_or names attr.0 [])

-- the statements that a value is current
abbrev pub last_statements : RelId → AttrId → Option Numbered → List Statement
last_statements rel attr None = []
last_statements rel attr (Some t) = map (says.Last rel attr) (wanted_values attr t.names)

-- the statements of a block
abbrev pub block_statements : Numbers → Block → List Statement
block_statements n (Pairs rel attr) = pair_statements rel attr (slice_get n.tables rel.0)
block_statements n (Tops rel attr) = top_statements rel attr (slice_get n.tables rel.0)
block_statements n (Lasts rel attr) = last_statements rel attr (slice_get n.tables rel.0)
block_statements n Answers = map says.Answer (range_with_len 0 n.answers)

-- the statements that are numbered; the place of a statement is its variable
abbrev pub statements_of : Numbers → List Statement
statements_of n = flat_map (block_statements n) (blocks_of n)

-- ---- the order of statements

-- the numbers by which statements are ordered: the kind, and then the ids
abbrev pub key_of : Statement → List ℕ
key_of (says.Before rel attr earlier later) = 0 ∷ rel.0 ∷ attr.0 ∷ earlier.0 ∷ later.0 ∷ []
key_of (says.Top rel attr row) = 1 ∷ rel.0 ∷ attr.0 ∷ row.0 ∷ []
key_of (says.Last rel attr row) = 2 ∷ rel.0 ∷ attr.0 ∷ row.0 ∷ []
key_of (says.Answer tuple) = 3 ∷ tuple ∷ []

-- the order of statements: by kind, and then by their ids in turn
abbrev pub statement_cmp : Statement → Statement → Ordering
statement_cmp a b = slice_cmp nat_cmp (key_of a) (key_of b)
