-- Where the blocks of statements stand, and where each starts: what the numbers of a specification keep at hand.
use Rattle.std.specs.Prelude.{◌≡◌, ◌+◌, ◌-◌, ◌<◌, ◌≤◌, ◌^◌, ℕ, Bool, List, Some, None, length, map, slice_get, slice_index, take, if◌then◌else◌}
use Rattle.std.specs.List.{flat_map, range_with_len, sum_by}
use Rattle.currency_base.specs.declared.ids.AttrId.{AttrId}
use Rattle.currency_base.specs.declared.ids.RelId.{RelId}
use Rattle.entity_lists.specs.Lists.{entities_of}
use Rattle.pair_numbers.specs.Pairs.{pairs_of}
use Rattle.spec_model.specs.declared.relation.Relation.{Relation}
use Rattle.order_literals.specs.declared.block.Block.{Block}
use Rattle.order_literals.specs.declared.block.Block.TheVariants.{Pairs, Tops, Lasts, Answers}
use Rattle.order_literals.specs.declared.block.BlockKind.{BlockKind}
use Rattle.order_literals.specs.declared.block.BlockKind.TheVariants as kind
use Rattle.order_literals.specs.Numbers.{Numbered, Numbers, value_names_of}
use Rattle.order_literals.specs.Statements.{block_statements, blocks_of, statements_of}

-- the block of a kind
abbrev pub block_of : BlockKind → RelId → AttrId → Block
block_of kind.Pairs rel attr = Pairs rel attr
block_of kind.Tops rel attr = Tops rel attr
block_of kind.Lasts rel attr = Lasts rel attr

-- how many attributes the relations before one have
abbrev pub attrs_before : List Numbered → ℕ → ℕ
attrs_before tables rel = sum_by (λ t. t.attrs) (take rel tables)

-- for each relation, and for one more, how many attributes those before it have
abbrev pub firsts_of_tables : List Numbered → List ℕ
firsts_of_tables tables = map (attrs_before tables) (range_with_len 0 (length tables + 1))

-- how many statements the blocks before one have
abbrev pub statements_before : Numbers → List Block → ℕ → ℕ
statements_before n blocks place = length (flat_map (block_statements n) (take place blocks))

-- for each block, and for one more, how many statements those before it have
abbrev pub starts_of : Numbers → List Block → List ℕ
starts_of n blocks = map (statements_before n blocks) (range_with_len 0 (length blocks + 1))

-- an attribute of a relation
pub record HasPlace (tables : List Numbered) (rel attr : ℕ) : Type 0 where
  pub table : Numbered
  pub is_table : slice_get tables rel ≡ Some table
  pub attr_within : attr < table.attrs

-- a block of these relations
abbrev pub IsBlockOf : List Numbered → Block → Type 0
IsBlockOf tables (Pairs rel attr) = HasPlace tables rel.0 attr.0
IsBlockOf tables (Tops rel attr) = HasPlace tables rel.0 attr.0
IsBlockOf tables (Lasts rel attr) = HasPlace tables rel.0 attr.0
IsBlockOf tables Answers = Unit

-- a block has a statement with this number
pub record HasStatement (n : Numbers) (place number : ℕ) : Type 0 where
  pub block : Block
  pub is_block : slice_get (blocks_of n) place ≡ Some block
  pub within : number < length (block_statements n block)

-- the lists that are kept at hand, of fewer than 2^31 statements
pub record AreLaidOut (n : Numbers) (firsts : List ℕ) (blocks : List Block) (starts : List ℕ) : Type 0 where
  pub firsts_are : firsts ≡ firsts_of_tables n.tables
  pub blocks_are : blocks ≡ blocks_of n
  pub starts_are : starts ≡ starts_of n (blocks_of n)
  pub few : length (statements_of n) < 2 ^ 31

-- the relations with an attribute have fewer than 2^32 pairs of rows of one entity
abbrev pub HaveFewPairs : List Relation → Type 0
HaveFewPairs relations = (rel : ℕ) (r : Relation) → slice_get relations rel ≡ Some r → 0 < length r.attrs
    → length (pairs_of (entities_of r.rows)) < 2 ^ 32

-- what is numbered of a relation whose current values are wanted or not
abbrev pub numbered_as : Bool → Relation → Numbered
numbered_as wanted r = record {
  attrs = length r.attrs;
  rows = record { count = length r.entities; entities = entities_of r.rows };
  names = if wanted then Some (value_names_of r) else None;
}

-- numbers that rise, from 0 to beyond a variable
pub record AreAround (starts : List ℕ) (var : ℕ) : Type 0 where
  pub some : 0 < length starts
  pub first : slice_index starts 0 ≡ 0
  pub rise : (i j : ℕ) → i ≤ j → j < length starts → slice_index starts i ≤ slice_index starts j
  pub last : var < slice_index starts (length starts - 1)
