-- What a completion is built from.
use Rattle.std.specs.Prelude.{◌≡◌, ℕ, Bool, List, Some, slice_get, length}
use Rattle.entity_lists.specs.Lists.{entities_of}
use Rattle.spec_model.specs.declared.relation.Relation.{Relation}
use Rattle.order_literals.specs.Numbers.{Numbered, Numbers}
use Rattle.order_literals.specs.Statements.{statements_of}

-- relations, what is numbered of them, and a truth for each statement
pub record Source : Type 0 where
  pub relations : List Relation
  pub numbers : Numbers
  pub truths : List Bool

-- of a relation its attributes, its entities and the entity of each row are numbered
pub record IsTableOf (numbers : Numbers) (rel : ℕ) (r : Relation) : Type 0 where
  pub table : Numbered
  pub is_table : slice_get numbers.tables rel ≡ Some table
  pub attrs_are : table.attrs ≡ length r.attrs
  pub count_is : table.rows.count ≡ length r.entities
  pub entities_are : table.rows.entities ≡ entities_of r.rows

pub record IsSource (s : Source) : Type 0 where
  pub per_statement : length s.truths ≡ length (statements_of s.numbers)
  pub tables : (rel : ℕ) (r : Relation) → slice_get s.relations rel ≡ Some r → IsTableOf s.numbers rel r
