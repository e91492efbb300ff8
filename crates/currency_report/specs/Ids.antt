-- The ids of what names name.
use Rattle.std.specs.Prelude.{◌≡◌, ◌<◌, ℕ, List, [], ◌∷◌, length, Option, Some, option_map, slice_get}
use Rattle.currency_base.specs.declared.ids.RowId.{RowId}
use Rattle.spec_names.specs.Names.{place_of}
use Rattle.spec_model.specs.declared.relation.Relation.{Relation}
use Rattle.text_grammar.specs.declared.named.Named.{Named}
use Rattle.currency_report.specs.Places.{attr_named, entity_named, place_named, row_and}
use Rattle.currency_report.specs.declared.place.AttrIds.{AttrIds}
use Rattle.currency_report.specs.declared.place.EntityIds.{EntityIds}
use Rattle.currency_report.specs.declared.place.PlaceIds.{PlaceIds}

-- the ids of the attribute that two names name
pub record IsAttrOf (relations : List Relation) (relation attr : Named) (a : AttrIds) : Type 0 where
  pub of : Relation
  pub found : slice_get relations a.rel.0 ≡ Some of
  pub is_named : attr_named relations relation attr ≡ Some record { relation = of; rel = a.rel.0; attr = a.attr.0 }
  pub attr_within : a.attr.0 < length of.attrs

-- the ids of the entity that two names name
pub record IsEntityOf (relations : List Relation) (relation entity : Named) (e : EntityIds) : Type 0 where
  pub of : Relation
  pub found : slice_get relations e.rel.0 ≡ Some of
  pub is_named : entity_named relations relation entity ≡ Some record { relation = of; rel = e.rel.0; ent = e.ent.0 }
  pub ent_within : e.ent.0 < length of.entities

-- the ids of the attribute and the entity that three names name
pub record IsPlaceOf (relations : List Relation) (relation attr entity : Named) (p : PlaceIds) : Type 0 where
  pub of : Relation
  pub found : slice_get relations p.rel.0 ≡ Some of
  pub is_named : place_named relations relation attr entity ≡ Some record {
    relation = of;
    rel = p.rel.0;
    attr =
        p.attr.0;
    ent = p.ent.0;
  }
  pub attr_within : p.attr.0 < length of.attrs
  pub ent_within : p.ent.0 < length of.entities

-- the row of a name among the names of rows
abbrev pub row_among : List (List ℕ) → Named → Option RowId
row_among names row = option_map (λ n. record { 0 = n }) (place_of names row.name)

-- the rows of these names among the names of rows, where all are there
abbrev pub rows_among : List (List ℕ) → List Named → Option (List RowId)
rows_among names [] = Some []
rows_among names (n ∷ ns) = row_and (row_among names n) (rows_among names ns)
