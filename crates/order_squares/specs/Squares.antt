-- Squares: one for each relation, attribute and entity, with a row and a column for each of the entity's rows.
use Rattle.std.specs.Prelude.{◌≡◌, ◌<◌, ◌+◌, ◌/◌, ◌%◌, ◌++◌, ◌∷◌, [], ◌^◌, ℕ, List, Some, map, length, slice_get, slice_index}
use Rattle.std.specs.List.{range_with_len}
use Rattle.std.specs.Option.{option_map_or}
use Rattle.currency_base.specs.declared.ids.RowId.{RowId}
use Rattle.partial_orders.specs.Pairs.{entity_of}
use Rattle.spec_model.specs.declared.relation.Relation.{Relation}
use Rattle.horn_closure.specs.Least.{IsCell, base_of, cells_of}
use Rattle.order_squares.specs.Entities.{count_of, members_of}
use Rattle.order_squares.specs.declared.square.Square.{Square}

-- how many attributes a relation has
abbrev pub attrs_of : List Relation → ℕ → ℕ
attrs_of relations rel = option_map_or (λ r. length r.attrs) (slice_get relations rel) 0

-- the square of a relation's attribute and entity
abbrev pub square_at : ℕ → ℕ → ℕ → Square
square_at rel attr ent = record { rel = record { 0 = rel }; attr = record { 0 = attr }; ent = record { 0 = ent } }

-- the squares of an attribute, one for each of so many entities
abbrev pub column_of : ℕ → ℕ → ℕ → List Square
column_of rel attr count = map (λ ent. square_at rel attr ent) (range_with_len 0 count)

-- how many rows the entity of a square has
abbrev pub size_of : List Relation → Square → ℕ
size_of relations q = length (members_of relations q.rel.0 q.ent.0)

-- ---- the numbers of squares

-- the squares of a relation's attribute begin at this number
pub record StartsAt (starts : List (List ℕ)) (rel attr start : ℕ) : Type 0 where
  pub column : List ℕ
  pub is_column : slice_get starts rel ≡ Some column
  pub is_start : slice_get column attr ≡ Some start

-- a square has this number: it stands as far behind the start of its attribute as its entity's number says
pub record IsNumbered (relations : List Relation) (starts : List (List ℕ)) (q : Square) (k : ℕ) : Type 0 where
  pub start : ℕ
  pub starts_at : StartsAt starts q.rel.0 q.attr.0 start
  pub within : q.ent.0 < count_of relations q.rel.0
  pub number : k ≡ start + q.ent.0

-- each square has its number, and of the attributes that have a start each entity has its square
pub record AreSquares (relations : List Relation) (starts : List (List ℕ)) (squares : List Square) : Type 0 where
  pub each : (k : ℕ) (q : Square) → slice_get squares k ≡ Some q → IsNumbered relations starts q k
  pub all : (rel attr start ent : ℕ) → StartsAt starts rel attr start → ent < count_of relations rel
      → slice_get squares (start + ent) ≡ Some (square_at rel attr ent)

-- the squares of the relations, where each attribute has a start
pub record AreListed (relations : List Relation) (starts : List (List ℕ)) (squares : List Square) : Type 0 where
  pub are_squares : AreSquares relations starts squares
  pub has_start : (rel attr : ℕ) → attr < attrs_of relations rel → (start : ℕ) × StartsAt starts rel attr start

-- squares of one relation more
pub record GoesOn (relation : Relation) (rel : ℕ) (old : List Square) (column : List ℕ) (new : List Square) : Type 0 where
  pub goes : (relations : List Relation) (starts : List (List ℕ)) → length starts ≡ rel → slice_get relations rel ≡ Some relation
      → AreSquares relations starts old → AreSquares relations (starts ++ column ∷ []) new

-- how many cells the squares before each one have
pub record AreBases (sizes bases : List ℕ) : Type 0 where
  pub many : length bases ≡ length sizes + 1
  pub each : (k : ℕ) → k < length bases → slice_index bases k ≡ base_of sizes k

-- ---- slots

-- relations, their squares, and the squares' sizes
pub record Layout : Type 0 where
  pub relations : List Relation
  pub squares : List Square
  pub sizes : List ℕ

-- the squares are those of the relations, each with its size, and there are fewer cells than numbers
pub record IsLayout (l : Layout) : Type 0 where
  pub starts : List (List ℕ)
  pub listed : AreListed l.relations starts l.squares
  pub sizes : l.sizes ≡ map (size_of l.relations) l.squares
  pub few : cells_of l.sizes < 2 ^ 32

-- the same with the starts and the bases that are kept
pub record IsLaidOut (l : Layout) (starts : List (List ℕ)) (bases : List ℕ) : Type 0 where
  pub listed : AreListed l.relations starts l.squares
  pub sizes : l.sizes ≡ map (size_of l.relations) l.squares
  pub bases_are : AreBases l.sizes bases
  pub few : cells_of l.sizes < 2 ^ 32

-- a slot is that of a pair of rows of one entity, in an attribute of a relation
pub record IsSlot (l : Layout) (rel attr : ℕ) (earlier later : RowId) (slot : ℕ) : Type 0 where
  pub ent : ℕ
  pub square : ℕ
  pub row : ℕ
  pub column : ℕ
  pub is_square : slice_get l.squares square ≡ Some (square_at rel attr ent)
  pub earlier_is : slice_get (members_of l.relations rel ent) row ≡ Some earlier
  pub later_is : slice_get (members_of l.relations rel ent) column ≡ Some later
  pub cell : IsCell l.sizes square row column slot

-- two rows of one entity, and an attribute of their relation
pub record Stand (relations : List Relation) (rel attr : ℕ) (earlier later : RowId) : Type 0 where
  pub relation : Relation
  pub is_relation : slice_get relations rel ≡ Some relation
  pub attr_in : attr < length relation.attrs
  pub ent : ℕ
  pub earlier_of : entity_of relation.rows earlier.0 ≡ Some ent
  pub later_of : entity_of relation.rows later.0 ≡ Some ent

-- the rows of a cell of the square of these rows
pub record AreRowsAt (members : List RowId) (cell : ℕ) (earlier later : RowId) : Type 0 where
  pub earlier_is : slice_get members (cell / length members) ≡ Some earlier
  pub later_is : slice_get members (cell % length members) ≡ Some later
