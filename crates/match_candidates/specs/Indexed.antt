-- Relations with the rows of their entities.
use Rattle.std.specs.Prelude.{List}
use Rattle.currency_base.specs.declared.ids.RowId.{RowId}
use Rattle.log_axioms.specs.Entities.{AreIndexed}
use Rattle.spec_model.specs.Facts.{AreRelations}
use Rattle.spec_model.specs.declared.relation.Relation.{Relation}

-- what contracts see
abbrev pub Relations : Type 0
Relations = List Relation

-- relations of a specification, and for each the rows of its entities
pub record AreWithRows (relations : List Relation) (rows : List (List (List RowId))) : Type 0 where
  pub facts : AreRelations relations
  pub indexed : AreIndexed relations rows
