-- Parts of a specification that share no entity and together have all, and laws of them, as statements.
use Rattle.std.specs.Prelude.{◌≡◌, ◌<◌, ◌↔◌, ℕ, true, List, length, All, Contains, Some, slice_get}
use Rattle.currency_base.specs.declared.ids.EntId.{EntId}
use Rattle.currency_base.specs.declared.pair.Pair.{Pair}
use Rattle.currency_base.specs.declared.value.Value.{Value}
use Rattle.part_laws.specs.Parts.{Scope, Places, rows_in, entities_in, IsPartOf, IsPairPart, IsNarrowed}
use Rattle.spec_model.specs.Spec.{Spec}
use Rattle.spec_model.specs.Facts.{IsSpecification}
use Rattle.spec_model.specs.Completion.{Rankings, lists_of, Before}
use Rattle.spec_model.specs.Consistent.{IsConsistent, IsSatisfiable}
use Rattle.spec_model.specs.Current.{current_value}
use Rattle.spec_model.specs.declared.relation.Relation.{Relation}

-- ---- parts

-- a part: which entities it has, its rows and entities by their numbers in the whole, and what it is as a specification
pub record Part : Type 0 where
  pub scope : Scope
  pub places : Places
  pub spec : Spec

-- the part at this place among some has an entity of a relation
pub record IsInPart (parts : List Part) (at rel ent : ℕ) : Type 0 where
  pub part : Part
  pub is_part : slice_get parts at ≡ Some part
  pub is_in : part.scope rel ent ≡ true

-- parts of a specification: each closed under copied rows, no two with an entity in common, and each entity in one of them
pub record ArePartsOf (s : Spec) (parts : List Part) : Type 0 where
  pub each : All (λ p. IsPartOf s p.scope p.places p.spec) parts
  pub disjoint : (rel : ℕ) (r : Relation) → slice_get s.relations rel ≡ Some r → (ent : ℕ) → ent < length r.entities
      → (i j : ℕ) → IsInPart parts i rel ent → IsInPart parts j rel ent → i ≡ j
  pub all : (rel : ℕ) (r : Relation) → slice_get s.relations rel ≡ Some r → (ent : ℕ) → ent < length r.entities
      → (i : ℕ) × IsInPart parts i rel ent

-- a part of a specification, among such parts of it, of which each has a consistent completion
pub record IsAmongConsistent (s : Spec) (parts : List Part) (p : Part) : Type 0 where
  pub whole_is : IsSpecification s
  pub are : ArePartsOf s parts
  pub consistent : All (λ q. IsSatisfiable q.spec) parts
  pub among : Contains parts p

-- ---- what is certain, and what is possible

-- a pair of rows of a relation is certain: in each consistent completion its earlier row stands before its later one
abbrev pub IsCertainPair : Spec → ℕ → Pair → Type 0
IsCertainPair s rel p = (c : Rankings) → IsConsistent s c → Before (lists_of c rel p.attr.0) p.earlier p.later

-- and it is possible: in some it does
abbrev pub IsPossiblePair : Spec → ℕ → Pair → Type 0
IsPossiblePair s rel p = (c : Rankings) × IsConsistent s c × Before (lists_of c rel p.attr.0) p.earlier p.later

-- in a completion the current value of an attribute of an entity is this one
pub record HasCurrent (s : Spec) (c : Rankings) (rel attr ent : ℕ) (value : Value) : Type 0 where
  pub relation : Relation
  pub is_relation : slice_get s.relations rel ≡ Some relation
  pub current : current_value c rel relation.rows attr ent ≡ Some value

-- a current value is certain: each consistent completion has it
abbrev pub IsCertainCurrent : Spec → ℕ → ℕ → ℕ → Value → Type 0
IsCertainCurrent s rel attr ent value = (c : Rankings) → IsConsistent s c → HasCurrent s c rel attr ent value

-- and it is possible: some consistent completion has it
abbrev pub IsPossibleCurrent : Spec → ℕ → ℕ → ℕ → Value → Type 0
IsPossibleCurrent s rel attr ent value = (c : Rankings) × IsConsistent s c × HasCurrent s c rel attr ent value

-- ---- laws

-- consistent: a specification has a consistent completion exactly where each part has one
abbrev pub PartsAreConsistent : Type 0
PartsAreConsistent = (s : Spec) (parts : List Part) → IsSpecification s → ArePartsOf s parts
    → IsSatisfiable s ↔ All (λ p. IsSatisfiable p.spec) parts

-- inconsistent: where some part has no consistent completion the specification has none, so all is certain in it
abbrev pub PartsAreInconsistent : Type 0
PartsAreInconsistent = (s : Spec) (parts : List Part) (p : Part) → IsSpecification s → ArePartsOf s parts → Contains parts p
    → (IsSatisfiable p.spec → ⊥)
    → (IsSatisfiable s → ⊥)
    × ((rel : ℕ) (pair : Pair) → IsCertainPair s rel pair)
    × ((rel attr ent : ℕ) (value : Value) → IsCertainCurrent s rel attr ent value)

-- extending: where all parts are consistent, each consistent completion of a part is what some one of the whole says of its rows
abbrev pub PartsExtend : Type 0
PartsExtend = (s : Spec) (parts : List Part) (p : Part) → IsAmongConsistent s parts p
    → (narrow : Rankings) → IsConsistent p.spec narrow
    → (c : Rankings) × IsConsistent s c × IsNarrowed s.relations p.places c narrow

-- certain pairs: where all parts are consistent, a pair of a part's rows is certain in the part exactly where it is in the whole
abbrev pub PairsAreCertain : Type 0
PairsAreCertain = (s : Spec) (parts : List Part) (p : Part) → IsAmongConsistent s parts p
    → (rel : ℕ) (r : Relation) → slice_get s.relations rel ≡ Some r
    → (new old : Pair) → old.attr.0 < length r.attrs → IsPairPart (rows_in p.places rel) new old
    → IsCertainPair p.spec rel new ↔ IsCertainPair s rel old

-- possible pairs: where all parts are consistent, such a pair is possible in the part exactly where it is in the whole
abbrev pub PairsArePossible : Type 0
PairsArePossible = (s : Spec) (parts : List Part) (p : Part) → IsAmongConsistent s parts p
    → (rel : ℕ) (r : Relation) → slice_get s.relations rel ≡ Some r
    → (new old : Pair) → old.attr.0 < length r.attrs → IsPairPart (rows_in p.places rel) new old
    → IsPossiblePair p.spec rel new ↔ IsPossiblePair s rel old

-- certain values: where all parts are consistent, a current value is certain in a part exactly where it is in the whole
abbrev pub ValuesAreCertain : Type 0
ValuesAreCertain = (s : Spec) (parts : List Part) (p : Part) → IsAmongConsistent s parts p
    → (rel : ℕ) (r : Relation) → slice_get s.relations rel ≡ Some r → (attr : ℕ) → attr < length r.attrs
    → (k : ℕ) (ent : EntId) → slice_get (entities_in p.places rel) k ≡ Some ent
    → (value : Value) → IsCertainCurrent p.spec rel attr k value ↔ IsCertainCurrent s rel attr ent.0 value

-- possible values: where all parts are consistent, such a value is possible in the part exactly where it is in the whole
abbrev pub ValuesArePossible : Type 0
ValuesArePossible = (s : Spec) (parts : List Part) (p : Part) → IsAmongConsistent s parts p
    → (rel : ℕ) (r : Relation) → slice_get s.relations rel ≡ Some r → (attr : ℕ) → attr < length r.attrs
    → (k : ℕ) (ent : EntId) → slice_get (entities_in p.places rel) k ≡ Some ent
    → (value : Value) → IsPossibleCurrent p.spec rel attr k value ↔ IsPossibleCurrent s rel attr ent.0 value
