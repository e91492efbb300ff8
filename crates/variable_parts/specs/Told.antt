-- The part of each numbered statement, in the order of the statements.
use Rattle.std.specs.Prelude.{◌≡◌, ◌+◌, ◌<◌, ◌^◌, ℕ, true, List, [], Option, None, Some, length, map, drop, slice_get, slice_index}
use Rattle.std.specs.Option.{unwrap_or}
use Rattle.currency_base.specs.declared.ids.AttrId.{AttrId}
use Rattle.currency_base.specs.declared.ids.RelId.{RelId}
use Rattle.currency_base.specs.declared.ids.RowId.{RowId}
use Rattle.currency_base.specs.declared.row.Row.{Row}
use Rattle.entity_lists.specs.Lists.{entities_of}
use Rattle.pair_numbers.specs.Pairs.{pairs_of}
use Rattle.spec_model.specs.Spec.{Spec}
use Rattle.spec_model.specs.declared.relation.Relation.{Relation}
use Rattle.refutation_log.specs.declared.statement.Statement.{Statement}
use Rattle.order_literals.specs.Numbers.{Numbers, is_wanted, numbers_of}
use Rattle.order_literals.specs.Statements.{block_statements, statements_of}
use Rattle.order_literals.specs.declared.block.Block.{Block}
use Rattle.order_literals.specs.declared.block.Block.TheVariants as block
use Rattle.order_literals.specs.declared.wanted.Wanted.{Wanted}
use Rattle.entity_ties.specs.Labels.{AreTies, Labelling}
use Rattle.variable_parts.specs.Parts.{label_at, part_of, row_cell}
use Rattle.variable_parts.specs.Sorted.{places_from}
use Rattle.variable_parts.specs.declared.keys.Kind.{Kind}
use Rattle.variable_parts.specs.declared.keys.Kind.TheVariants.{Pairs, Tops, Lasts}

-- a specification, what is numbered of it beside the pairs of rows, and its parts
pub record Divided : Type 0 where
  pub spec : Spec
  pub wanted : Wanted
  pub ties : Labelling

-- what is numbered
abbrev pub numbers_in : Divided → Numbers
numbers_in d = numbers_of d.spec.relations d.wanted

-- these are the numbers, and the parts are those of the specification
pub record IsDivided (n : Numbers) (d : Divided) : Type 0 where
  pub numbers : n ≡ numbers_in d
  pub ties : AreTies d.spec d.ties

-- they are, and there are so many parts, which is a number of 32 bits
pub record IsSource (n : Numbers) (count : ℕ) (d : Divided) : Type 0 where
  pub divided : IsDivided n d
  pub count_is : count ≡ d.ties.count
  pub few : count + 1 < 2 ^ 32

-- the rows of a relation, if it is there
abbrev pub rows_at : Option Relation → List Row
rows_at None = []
rows_at (Some r) = r.rows

abbrev pub rows_in : Divided → RelId → List Row
rows_in d rel = rows_at (slice_get d.spec.relations rel.0)

-- ---- parts by number: where there is none, how many parts there are

-- of a row's entity
unfoldable pub row_key : Divided → RelId → RowId → ℕ
row_key d rel row = unwrap_or (label_at d.ties (row_cell d.spec.relations rel.0 row.0)) d.ties.count

-- of a statement
abbrev pub key_of : Divided → Statement → ℕ
key_of d s = unwrap_or (part_of d.ties d.spec.relations s) d.ties.count

-- of the statements of a block
unfoldable pub block_keys : Divided → Block → List ℕ
block_keys d b = map (key_of d) (block_statements (numbers_in d) b)

-- of all statements
abbrev pub keys_of : Divided → List ℕ
keys_of d = map (key_of d) (statements_of (numbers_in d))

-- ---- rows

-- how many rows of its entity come after a row
abbrev pub laters : List ℕ → ℕ → ℕ
laters entities row = length (places_from (row + 1) (drop (row + 1) entities) (slice_index entities row))

-- of the statements on the pairs of rows of a relation, for one attribute
unfoldable pub pair_keys : Divided → RelId → List ℕ
pair_keys d rel = map (λ p. row_key d rel p.earlier) (pairs_of (entities_of (rows_in d rel)))

-- a row of a relation whose current values are wanted, and one of its attributes
pub record IsWantedRow (d : Divided) (rel : RelId) (attr : AttrId) (row : RowId) : Type 0 where
  pub relation : Relation
  pub is_relation : slice_get d.spec.relations rel.0 ≡ Some relation
  pub attr_within : attr.0 < length relation.attrs
  pub row_within : row.0 < length relation.rows
  pub wanted : is_wanted d.wanted.currents rel.0 ≡ true

-- an attribute of a relation
pub record HasAttr (d : Divided) (rel : RelId) (attr : AttrId) : Type 0 where
  pub relation : Relation
  pub is_relation : slice_get d.spec.relations rel.0 ≡ Some relation
  pub attr_within : attr.0 < length relation.attrs

-- the block is on an attribute of a relation, or on answers
abbrev pub IsBlockIn : Divided → Block → Type 0
IsBlockIn d (block.Pairs rel attr) = HasAttr d rel attr
IsBlockIn d (block.Tops rel attr) = HasAttr d rel attr
IsBlockIn d (block.Lasts rel attr) = HasAttr d rel attr
IsBlockIn d block.Answers = Unit

-- the block of a kind
abbrev pub block_of : Kind → RelId → AttrId → Block
block_of Pairs rel attr = block.Pairs rel attr
block_of Tops rel attr = block.Tops rel attr
block_of Lasts rel attr = block.Lasts rel attr
