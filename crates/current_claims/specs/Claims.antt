-- What is claimed of the current tuples of asked relations, as a completion has them.
use Rattle.std.specs.Prelude.{◌≡◌, ◌≢◌, ◌<◌, ℕ, List, length, All, Contains, Some, slice_get}
use Rattle.currency_base.specs.declared.ids.AttrId.{AttrId}
use Rattle.currency_base.specs.declared.ids.EntId.{EntId}
use Rattle.currency_base.specs.declared.ids.RelId.{RelId}
use Rattle.currency_base.specs.declared.value.Value.{Value}
use Rattle.denial_rules.specs.Instances.{field_value}
use Rattle.partial_orders.specs.Pairs.{entity_of}
use Rattle.spec_model.specs.Completion.{Rankings, ranking_of}
use Rattle.spec_model.specs.Current.{current_value, last_row}
use Rattle.spec_model.specs.declared.question.Question.TheVariants as asked
use Rattle.spec_model.specs.declared.relation.Relation.{Relation}
use Rattle.report_model.specs.declared.verdict.Verdict.TheVariants as verdict
use Rattle.report_verify.specs.Asked.{AreItemsOf}
use Rattle.report_verify.specs.Supported.{Claim, Need, needs_of}
use Rattle.report_verify.specs.Supported.Claim.{HasValue}
use Rattle.report_model.specs.Writable.{IsItemOf}
use Rattle.current_claims.specs.declared.claims.Claims.{Claims}
use Rattle.current_claims.specs.declared.claims.CurrentRow.{CurrentRow}

-- a row that stands last in the list of its entity, which is one of an asked relation
pub record IsLastIn (relations : List Relation) (rels : List RelId) (c : Rankings) (p : CurrentRow) : Type 0 where
  pub asked : Contains rels p.rel
  pub relation : Relation
  pub is_relation : slice_get relations p.rel.0 ≡ Some relation
  pub attr_within : p.attr.0 < length relation.attrs
  pub ent_within : p.ent.0 < length relation.entities
  pub row_within : p.row.0 < length relation.rows
  pub of_entity : entity_of relation.rows p.row.0 ≡ Some p.ent.0
  pub is_last : last_row (ranking_of c p.rel.0 p.attr.0 p.ent.0) ≡ Some p.row

-- what is claimed is that the row's value is the current one of its entity
pub record IsOfRow (relations : List Relation) (p : CurrentRow) (claim : Claim) : Type 0 where
  pub value : Value
  pub is_claim : claim ≡ HasValue p.rel p.attr p.ent value
  pub of_row : (r : Relation) → slice_get relations p.rel.0 ≡ Some r → field_value r.rows (Some p.row) p.attr.0 ≡ Some value

-- rows that stand last, one for each claim, in the order of the claims
pub record AreOfRows (relations : List Relation) (rels : List RelId) (c : Rankings) (rows : List CurrentRow)
    (needs : List Need) : Type 0 where
  pub as_many : length rows ≡ length needs
  pub last : All (IsLastIn relations rels c) rows
  pub each : (k : ℕ) (p : CurrentRow) (need : Need) → slice_get rows k ≡ Some p → slice_get needs k ≡ Some need
      → IsOfRow relations p need.claim

-- the items are exactly those of the asked relations, with the values of a completion, which can be written; and the rows are
-- those that have these values
pub record AreClaimsOf (relations : List Relation) (rels : List RelId) (c : Rankings) (claims : Claims) : Type 0 where
  pub items : AreItemsOf relations rels claims.items
  pub writable : All (IsItemOf relations) claims.items
  pub rows : AreOfRows relations rels c claims.rows (needs_of (asked.Same rels) (verdict.Same claims.items))

-- an attribute and an entity of an asked relation, where two completions have different current values
pub record IsDifference (relations : List Relation) (rels : List RelId) (c d : Rankings) (rel : RelId)
    (attr : AttrId) (ent : EntId) : Type 0 where
  pub asked : Contains rels rel
  pub relation : Relation
  pub is_relation : slice_get relations rel.0 ≡ Some relation
  pub attr_within : attr.0 < length relation.attrs
  pub ent_within : ent.0 < length relation.entities
  pub differ : current_value c rel.0 relation.rows attr.0 ent.0 ≢ current_value d rel.0 relation.rows attr.0 ent.0
