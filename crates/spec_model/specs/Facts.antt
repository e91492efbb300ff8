-- What every specification keeps.
use Rattle.std.specs.Prelude.{◌≡◌, ◌+◌, ◌^◌, ◌<◌, ℕ, List, [], length, map, All, Option, Some, None, option_and_then, slice_get, slice_set}
use Rattle.std.specs.BTreeSet.{insert_key}
use Rattle.currency_base.specs.Lists.{OnlyOnce}
use Rattle.currency_base.specs.Rows.{HasRowOf}
use Rattle.currency_base.specs.Values.{kind_of}
use Rattle.copy_functions.specs.Copies.{CopyFunction, with_source, without_source, IsCopied}
use Rattle.copy_functions.specs.Faults.{fault_due}
use Rattle.copy_functions.specs.declared.fault.CopyFault.{CopyFault}
use Rattle.copy_functions.specs.declared.place.Place.{Place}
use Rattle.partial_orders.specs.Pairs.{AreOfOneEntity, pair_cmp, without_pair}
use Rattle.currency_base.specs.declared.ids.RelId.{RelId}
use Rattle.currency_base.specs.declared.ids.RowId.{RowId}
use Rattle.currency_base.specs.declared.row.Row.{Row}
use Rattle.currency_base.specs.declared.pair.Pair.{Pair}
use Rattle.currency_base.specs.declared.value.ValueKind.{ValueKind}
use Rattle.denial_rules.specs.Rules.{IsRuleOn}
use Rattle.denial_rules.specs.declared.rule.Rule.{Rule}
use Rattle.spec_model.specs.Spec.{Spec}
use Rattle.spec_model.specs.declared.relation.Relation.{Relation}

-- a given pair of a relation: of one of its attributes, and of two different rows of one entity
pub record IsGivenPair (r : Relation) (p : Pair) : Type 0 where
  pub attr : p.attr.0 < length r.attrs
  pub earlier : p.earlier.0 < length r.rows
  pub later : p.later.0 < length r.rows
  pub one_entity : AreOfOneEntity r.rows p

-- the kinds of a relation's attributes
abbrev pub kinds_of : Relation → List ValueKind
kinds_of r = map (λ a. a.kind) r.attrs

-- a relation whose ids are numbers of 32 bits, whose rows stand for its entities, of which each has one, and have a value of
-- each attribute's kind, whose attributes, rows and entities have a name each of their own, and whose given pairs are such
-- pairs
pub record IsRelation (r : Relation) : Type 0 where
  pub few_attrs : length r.attrs + 1 < 2 ^ 32
  pub few_rows : length r.rows + 1 < 2 ^ 32
  pub few_entities : length r.entities + 1 < 2 ^ 32
  pub entities : All (λ row. row.entity.0 < length r.entities) r.rows
  pub inhabited : (ent : ℕ) → ent < length r.entities → HasRowOf r.rows ent
  pub values : All (λ row. map kind_of row.values ≡ kinds_of r) r.rows
  pub attr_names : OnlyOnce (map (λ a. a.name) r.attrs)
  pub row_names : OnlyOnce (map (λ row. row.name) r.rows)
  pub entity_names : OnlyOnce r.entities
  pub given : All (IsGivenPair r) r.given

-- a list of such relations, which are numbered by 32 bits and have a name each of their own
pub record AreRelations (relations : List Relation) : Type 0 where
  pub few : length relations + 1 < 2 ^ 32
  pub each : All IsRelation relations
  pub names : OnlyOnce (map (λ r. r.name) relations)

-- a rule on one of the relations
pub record IsRuleOf (relations : List Relation) (rule : Rule) : Type 0 where
  pub relation : Relation
  pub is_relation : slice_get relations rule.relation.0 ≡ Some relation
  pub fits : IsRuleOn (kinds_of relation) rule

-- a list of such rules, which are numbered by 32 bits and have a name each of their own
pub record AreRules (relations : List Relation) (rules : List Rule) : Type 0 where
  pub few : length rules + 1 < 2 ^ 32
  pub each : All (IsRuleOf relations) rules
  pub names : OnlyOnce (map (λ rule. rule.name) rules)

-- a place of a copy function: an attribute of the target relation and one of the source relation, of one kind
pub record IsPlaceBetween (target source : Relation) (place : Place) : Type 0 where
  pub kind : ValueKind
  pub in_target : slice_get (kinds_of target) place.target.0 ≡ Some kind
  pub in_source : slice_get (kinds_of source) place.source.0 ≡ Some kind

-- a copy function between two of the relations: such places, and mapped rows that have the values of their source rows
pub record IsCopyAmong (relations : List Relation) (copy : CopyFunction) : Type 0 where
  pub target : Relation
  pub source : Relation
  pub is_target : slice_get relations copy.target.0 ≡ Some target
  pub is_source : slice_get relations copy.source.0 ≡ Some source
  pub places : All (IsPlaceBetween target source) copy.places
  pub copied : IsCopied copy target.rows source.rows

-- a list of such copy functions, which are numbered by 32 bits and have a name each of their own
pub record AreCopies (relations : List Relation) (copies : List CopyFunction) : Type 0 where
  pub few : length copies + 1 < 2 ^ 32
  pub each : All (IsCopyAmong relations) copies
  pub names : OnlyOnce (map (λ copy. copy.name) copies)

-- what every specification keeps
pub record IsSpecification (s : Spec) : Type 0 where
  pub relations : AreRelations s.relations
  pub rules : AreRules s.relations s.rules
  pub copies : AreCopies s.relations s.copies

-- the relation with one more given pair
abbrev pub with_given : Relation → Pair → Relation
with_given r pair = record r { given = insert_key pair_cmp r.given pair }

-- new is old with one more given pair at one of its relations
abbrev pub AddsGiven : List Relation → List Relation → ℕ → Pair → Type 0
AddsGiven old new rel pair = (r : Relation) → slice_get old rel ≡ Some r → new ≡ slice_set old rel (with_given r pair)

-- the relation with one given pair less
abbrev pub without_given : Relation → Pair → Relation
without_given r pair = record r { given = without_pair r.given pair }

-- new is old with one given pair less at one of its relations
abbrev pub TakesGiven : List Relation → List Relation → ℕ → Pair → Type 0
TakesGiven old new rel pair = (r : Relation) → slice_get old rel ≡ Some r → new ≡ slice_set old rel (without_given r pair)

-- the rows of a relation, if it is there
abbrev pub rows_of : List Relation → RelId → List Row
rows_of relations rel = of (slice_get relations rel.0)
  where
    of : Option Relation → List Row
    of None = []
    of (Some r) = r.rows

-- new is old with one more row mapped, by the copy function at a place
abbrev pub MapsCopied : List CopyFunction → List CopyFunction → ℕ → RowId → RowId → Type 0
MapsCopied old new copy target source =
    (c : CopyFunction) → slice_get old copy ≡ Some c → new ≡ slice_set old copy (with_source c target source)

-- new is old with one row mapped less, by the copy function at a place
abbrev pub UnmapsCopied : List CopyFunction → List CopyFunction → ℕ → RowId → Type 0
UnmapsCopied old new copy target =
    (c : CopyFunction) → slice_get old copy ≡ Some c → new ≡ slice_set old copy (without_source c target)

-- why the copy function at a place does not map a target row to a source row, if there is a cause
abbrev pub copied_due : Spec → ℕ → RowId → RowId → Option CopyFault
copied_due s copy target source =
    option_and_then (λ c. fault_due c (rows_of s.relations c.target) (rows_of s.relations c.source) target source)
    (slice_get s.copies copy)
