-- What a first guess is made from, list by list.
use Rattle.std.specs.Prelude.{◌≡◌, ◌<◌, ◌-◌, ℕ, Bool, List, Option, Some, if◌then◌else◌, length, slice_get}
use Rattle.currency_base.specs.declared.ids.AttrId.{AttrId}
use Rattle.currency_base.specs.declared.ids.RelId.{RelId}
use Rattle.currency_base.specs.declared.ids.RowId.{RowId}
use Rattle.entity_lists.specs.Lists.{rows_of}
use Rattle.spec_model.specs.declared.relation.Relation.{Relation}
use Rattle.order_literals.specs.Numbers.{Numbered, Numbers, numbers_of}
use Rattle.order_literals.specs.Statements.{statements_of}
use Rattle.order_literals.specs.declared.wanted.Wanted.{Wanted}

-- relations, what is wanted and numbered of them, and the values that are known
pub record Subject : Type 0 where
  pub relations : List Relation
  pub wanted : Wanted
  pub numbers : Numbers
  pub known : List (Option Bool)

-- the numbers are those of the relations, and there is a place for the value of each statement
pub record IsSubject (s : Subject) : Type 0 where
  pub numbers_are : s.numbers ≡ numbers_of s.relations s.wanted
  pub per_statement : length s.known ≡ length (statements_of s.numbers)

-- an attribute of a relation, some of its rows, whether they are taken from the last on, and the values that are known
pub record Listed : Type 0 where
  pub numbers : Numbers
  pub known : List (Option Bool)
  pub rel : RelId
  pub attr : AttrId
  pub rows : List RowId
  pub turned : Bool

-- where the row at a place stands among the rows
abbrev pub slot_of : Listed → ℕ → ℕ
slot_of l place = if l.turned then length l.rows - 1 - place else place

-- what is numbered has the attribute, the rows are those of an entity, and there is a place for the value of each statement
pub record IsListed (l : Listed) : Type 0 where
  pub per_statement : length l.known ≡ length (statements_of l.numbers)
  pub table : Numbered
  pub is_table : slice_get l.numbers.tables l.rel.0 ≡ Some table
  pub attr_within : l.attr.0 < table.attrs
  pub ent : ℕ
  pub rows_are : l.rows ≡ rows_of table.rows.entities ent

-- there is a truth for each statement of the list's numbers
abbrev pub HasTruths : Listed → List Bool → Type 0
HasTruths l truths = length truths ≡ length (statements_of l.numbers)

-- a rank and a holder for each of so many rows
pub record AreOf (rows : ℕ) (ranks : List (Option ℕ)) (holders : List ℕ) : Type 0 where
  pub ranks_are : length ranks ≡ rows
  pub holders_are : length holders ≡ rows
