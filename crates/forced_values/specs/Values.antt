-- What forced pairs tell of a claim on a current value.
use Rattle.std.specs.Prelude.{◌≡◌, List, All, Some, length, slice_get}
use Rattle.currency_base.specs.declared.ids.RowId.{RowId}
use Rattle.currency_base.specs.declared.row.Row.{Row}
use Rattle.denial_rules.specs.Instances.{field_value}
use Rattle.entity_lists.specs.Lists.{Grouping, entities_of, rows_of}
use Rattle.forced_closure.specs.Forced.{IsForced}
use Rattle.match_premises.specs.declared.premise.Premise.{Premise}
use Rattle.spec_model.specs.Spec.{Spec}
use Rattle.spec_model.specs.declared.relation.Relation.{Relation}

-- the rows of each entity of a relation
abbrev pub grouping_of : Relation → Grouping
grouping_of r = record { count = length r.entities; entities = entities_of r.rows }

-- the rows of the entity of a claim's row
pub record AreRowsWith (relations : List Relation) (p : Premise) (rows : List RowId) : Type 0 where
  pub relation : Relation
  pub is_relation : slice_get relations p.rel.0 ≡ Some relation
  pub row : Row
  pub is_row : slice_get relation.rows p.row.0 ≡ Some row
  pub are : rows ≡ rows_of (entities_of relation.rows) row.entity.0

-- a row gives way to the claim's row: it has the same value of the attribute, or is forced to stand before it
pub data GivesWay (s : Spec) (p : Premise) (table : List Row) (row : RowId) : Type 0 where
  same : field_value table (Some row) p.attr.0 ≡ field_value table (Some p.row) p.attr.0 → GivesWay s p table row
  before : IsForced s p.rel.0 p.attr.0 row p.row → GivesWay s p table row

-- forced pairs tell what is claimed: each row of the entity gives way to the claim's row
pub record IsClaimForced (s : Spec) (p : Premise) : Type 0 where
  pub rows : List RowId
  pub rows_are : AreRowsWith s.relations p rows
  pub each : All (GivesWay s p rows_are.relation.rows) rows
