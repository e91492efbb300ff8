-- The fields of a relation, one after the other: entity by entity, and attribute by attribute.
use Rattle.std.specs.Prelude.{◌≡◌, ◌<◌, ◌+◌, ◌*◌, ℕ, List, [], ◌∷◌, All, Some, length, slice_get}
use Rattle.currency_base.specs.declared.value.Value.{Value}
use Rattle.denial_rules.specs.Instances.{field_value}
use Rattle.match_premises.specs.declared.premise.Premise.{Premise}
use Rattle.posed_facts.specs.declared.fact.Fact.{Fact}
use Rattle.posed_facts.specs.declared.fact.Fact.TheVariants as fact
use Rattle.decided_facts.specs.Decided.{AreShown}
use Rattle.decided_facts.specs.declared.shown.Shown.{Shown}
use Rattle.decided_facts.specs.declared.shown.Shown.TheVariants as shown
use Rattle.spec_model.specs.Completion.{Rankings}
use Rattle.spec_model.specs.Consistent.{IsConsistent}
use Rattle.spec_model.specs.Current.{current_value}
use Rattle.spec_model.specs.Pairs.{entity_of}
use Rattle.spec_model.specs.Spec.{Spec}
use Rattle.spec_model.specs.declared.relation.Relation.{Relation}
use Rattle.golden_values.specs.declared.field.Field.{Field}
use Rattle.golden_values.specs.declared.field.Field.TheVariants as field

-- ---- places

-- the number of a field, where the entities have so many attributes
abbrev pub place_of : ℕ → ℕ → ℕ → ℕ
place_of attrs ent attr = ent * attrs + attr

-- a field comes before another
pub data Precedes (to_ent to_attr : ℕ) : ℕ → ℕ → Type 0 where
  by_ent : {ent attr : ℕ} → ent < to_ent → Precedes to_ent to_attr ent attr
  by_attr : {ent attr : ℕ} → ent ≡ to_ent → attr < to_attr → Precedes to_ent to_attr ent attr

-- ---- facts

-- the fact that the value which a completion has at a field is the current one
pub record IsClaimAt (rel : ℕ) (r : Relation) (c : Rankings) (ent attr : ℕ) (f : Fact) : Type 0 where
  pub claim : Premise
  pub is_claim : f ≡ fact.Current claim
  pub of_relation : claim.rel.0 ≡ rel
  pub of_attr : claim.attr.0 ≡ attr
  pub of_entity : entity_of r.rows claim.row.0 ≡ Some ent
  pub value : Value
  pub of_value : field_value r.rows (Some claim.row) attr ≡ Some value
  pub current : current_value c rel r.rows attr ent ≡ Some value

-- there is such a fact at the number of a field
pub record HasClaimAt (rel : ℕ) (r : Relation) (c : Rankings) (facts : List Fact) (ent attr : ℕ) : Type 0 where
  pub fact : Fact
  pub is_fact : slice_get facts (place_of (length r.attrs) ent attr) ≡ Some fact
  pub claims : IsClaimAt rel r c ent attr fact

-- it is such a fact for some field
pub record IsClaim (rel : ℕ) (r : Relation) (c : Rankings) (f : Fact) : Type 0 where
  pub ent : ℕ
  pub attr : ℕ
  pub ent_within : ent < length r.entities
  pub attr_within : attr < length r.attrs
  pub claims : IsClaimAt rel r c ent attr f

-- these are the facts for the fields before one
pub record AreClaimsTo (rel : ℕ) (r : Relation) (c : Rankings) (to_ent to_attr : ℕ) (facts : List Fact) : Type 0 where
  pub as_many : length facts ≡ place_of (length r.attrs) to_ent to_attr
  pub each : (ent attr : ℕ) → attr < length r.attrs → Precedes to_ent to_attr ent attr → HasClaimAt rel r c facts ent attr
  pub only : All (IsClaim rel r c) facts

-- these are the facts for all fields of a relation
pub record AreClaims (relations : List Relation) (rel : ℕ) (c : Rankings) (facts : List Fact) : Type 0 where
  pub relation : Relation
  pub is_relation : slice_get relations rel ≡ Some relation
  pub claims : AreClaimsTo rel relation c (length relation.entities) 0 facts

-- ---- what is found

-- one completion is known, which is consistent, and the facts are those that its values are current
pub record IsKnown (s : Spec) (rel : ℕ) (facts : List Fact) (known : List Rankings) : Type 0 where
  pub completion : Rankings
  pub is_known : known ≡ completion ∷ []
  pub consistent : IsConsistent s completion
  pub claims : AreClaims s.relations rel completion facts

-- the facts for all fields are shown, and hold in a completion that is a consistent one
pub record AreClaimsShown (s : Spec) (rel : ℕ) (facts : List Fact) (list : List Shown) : Type 0 where
  pub completion : Rankings
  pub consistent : IsConsistent s completion
  pub claims : AreClaims s.relations rel completion facts
  pub completions : List Rankings
  pub shown : AreShown s facts completions list

-- the field whose fact this is, by what is shown of it
abbrev pub field_by : Fact → Shown → Field
field_by (fact.Current claim) shown.Holds = field.Value claim.row
field_by f x = field.Open
