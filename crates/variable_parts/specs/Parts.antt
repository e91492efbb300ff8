-- The part that a statement is of, and the variables of each part.
use Rattle.std.specs.Prelude.{◌≡◌, ◌↔◌, ℕ, List, Contains, Option, Some, None, option_map, length, slice_get}
use Rattle.std.specs.List.Sorted.{IsStrictlyIncreasing}
use Rattle.partial_orders.specs.Pairs.{entity_of}
use Rattle.spec_model.specs.Spec.{Spec}
use Rattle.spec_model.specs.declared.relation.Relation.{Relation}
use Rattle.refutation_log.specs.declared.statement.Statement.{Statement}
use Rattle.refutation_log.specs.declared.statement.Statement.TheVariants as says
use Rattle.entity_ties.specs.Labels.{Labelling, cell, label_of}
use Rattle.entity_ties.specs.Tied.{Cell}

-- the entity of a row of a relation, if the row is there
abbrev pub entity_in : ℕ → Option Relation → Option ℕ
entity_in row None = None
entity_in row (Some r) = entity_of r.rows row

abbrev pub row_cell : List Relation → ℕ → ℕ → Option Cell
row_cell relations rel row = option_map (cell rel) (entity_in row (slice_get relations rel))

-- the entity that a statement is about: that of its row, or of the first of its two rows; a statement on an answer is about none
abbrev pub cell_of : List Relation → Statement → Option Cell
cell_of relations (says.Before rel attr earlier later) = row_cell relations rel.0 earlier.0
cell_of relations (says.Top rel attr row) = row_cell relations rel.0 row.0
cell_of relations (says.Last rel attr row) = row_cell relations rel.0 row.0
cell_of relations (says.Answer tuple) = None

-- the part of an entity, where there is an entity and it has a part
abbrev pub label_at : Labelling → Option Cell → Option ℕ
label_at t None = None
label_at t (Some c) = label_of t c

-- the part of the entity that a statement is about
abbrev pub part_of : Labelling → List Relation → Statement → Option ℕ
part_of t relations s = label_at t (cell_of relations s)

-- a variable whose statement is of a part
pub record IsVarOf (s : Spec) (statements : List Statement) (t : Labelling) (part var : ℕ) : Type 0 where
  pub statement : Statement
  pub is_statement : slice_get statements var ≡ Some statement
  pub of_part : part_of t s.relations statement ≡ Some part

-- the variables of a part, ascending
pub record AreVarsOf (s : Spec) (statements : List Statement) (t : Labelling) (part : ℕ) (vars : List ℕ) : Type 0 where
  pub ascend : IsStrictlyIncreasing vars
  pub are : (var : ℕ) → Contains vars var ↔ IsVarOf s statements t part var

-- for each part its variables
pub record AreVariableParts (s : Spec) (statements : List Statement) (t : Labelling) (parts : List (List ℕ)) : Type 0 where
  pub many : length parts ≡ t.count
  pub each : (part : ℕ) (vars : List ℕ) → slice_get parts part ≡ Some vars → AreVarsOf s statements t part vars

-- the parts of a specification, and the variables of each
pub record Parted : Type 0 where
  pub ties : Labelling
  pub parts : List (List ℕ)
