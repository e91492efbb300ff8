-- The units of a log: which it has, of pairs, of current values and of answers.
use Rattle.std.specs.Prelude.{◌≡◌, ℕ, true, List, Some, slice_get}
use Rattle.std.specs.List.{list_any}
use Rattle.currency_base.specs.declared.ids.AttrId.{AttrId}
use Rattle.currency_base.specs.declared.ids.EntId.{EntId}
use Rattle.currency_base.specs.declared.ids.RelId.{RelId}
use Rattle.currency_base.specs.declared.ids.RowId.{RowId}
use Rattle.currency_base.specs.declared.lit.Lit.{Lit}
use Rattle.currency_base.specs.declared.value.Value.{Value}
use Rattle.denial_rules.specs.Instances.{field_value}
use Rattle.log_axioms.specs.Axioms.{answer, last, lit_says}
use Rattle.log_axioms.specs.declared.signed.Signed.{Signed}
use Rattle.log_checker.specs.Shown.{is_unit}
use Rattle.partial_orders.specs.Pairs.{entity_of}
use Rattle.refutation_log.specs.Steps.{clauses_of}
use Rattle.refutation_log.specs.declared.log.Log.{Log}
use Rattle.spec_model.specs.declared.relation.Relation.{Relation}

-- a step of the log is the unit of a literal that says this
pub record HasUnit (relations : List Relation) (log : Log) (s : Signed) : Type 0 where
  pub lit : Lit
  pub says : lit_says relations log.statements s lit ≡ true
  pub there : list_any (is_unit lit) (clauses_of log.steps) ≡ true

-- the log has the unit that a value is the current one of an entity, which is named by a row of it with the value
pub record HasLastUnit (relations : List Relation) (log : Log) (rel : RelId) (attr : AttrId) (ent : EntId)
    (v : Value) : Type 0 where
  pub relation : Relation
  pub row : RowId
  pub is_relation : slice_get relations rel.0 ≡ Some relation
  pub of_entity : entity_of relation.rows row.0 ≡ Some ent.0
  pub of_value : field_value relation.rows (Some row) attr.0 ≡ Some v
  pub unit : HasUnit relations log (last rel attr row)

-- the log has the unit that a tuple is an answer, which is named by a place of its answers with the tuple
pub record HasAnswerUnit (relations : List Relation) (log : Log) (tuple : List Value) : Type 0 where
  pub place : ℕ
  pub is_tuple : slice_get log.answers place ≡ Some tuple
  pub unit : HasUnit relations log (answer place)

-- what the units that are indexed are of: a log, and the relations that it speaks of
pub record IndexedLog : Type 0 where
  pub relations : List Relation
  pub log : Log
