-- Rows of a part, and the rows of the whole that they are.
use Rattle.std.proofs.Common.{◌≡◌, ◌<◌, ◌≤◌, ◌∙◌, ◌↔◌, ℕ, zero, suc, true, List, [], ◌∷◌, All, Contains, Option, Some, map, length, slice_get, slice_index_or, refl, sym, ap, subst, ⊎_elim, arith}
use Rattle.std.proofs.lemmas.Bool.{cases_eq, cases_lt}
use Rattle.std.proofs.lemmas.List.{length-map}
use Rattle.std.proofs.lemmas.List.Elements.{All-get_or}
use Rattle.std.proofs.lemmas.Option.{same_Some, none-some, get_or_from_slice_get, slice_get-get_or, slice_get_within, slice_get_cases}
use Rattle.currency_base.specs.declared.ids.EntId.{EntId}
use Rattle.currency_base.specs.declared.ids.RowId.{RowId}
use Rattle.currency_base.specs.declared.row.Row.{Row}
use Rattle.currency_base.specs.declared.value.Value.{Value}
use Rattle.denial_rules.specs.Instances.{value_in, field_value}
use Rattle.partial_orders.specs.Pairs.{entity_of}
use Rattle.spec_model.specs.Facts.{IsRelation, kinds_of}
use Rattle.spec_model.specs.Satisfies.{Lists}
use Rattle.spec_model.specs.declared.relation.Relation.{Relation}
use Rattle.part_laws.specs.Parts.{Scope, RowsAscend, EntitiesAscend, IsRowIn, IsRelationPart, whole_row}

-- ---- items and their places

pub place_of : {A : Type 0} (xs : List A) (x : A) → Contains xs x → (i : ℕ) × (slice_get xs i ≡ Some x)
place_of xs x c = (c.0, slice_get-get_or xs c.0 x c.1 ∙ ap Some c.2)

pub at_place : {A : Type 0} (xs : List A) (i : ℕ) (x : A) → slice_get xs i ≡ Some x → Contains xs x
at_place xs i x at = (i, slice_get_within xs i x at, get_or_from_slice_get xs i x x at)

-- what holds of each item holds of the one at a place
pub all_at : {A : Type 0} (P : A → Type 0) (xs : List A) (i : ℕ) (x : A) → All P xs → slice_get xs i ≡ Some x → P x
all_at P xs i x all at = subst P (get_or_from_slice_get xs i x x at) (All-get_or P xs i x (slice_get_within xs i x at) all)

pub there : {A : Type 0} (xs : List A) (i : ℕ) → i < length xs → (x : A) × (slice_get xs i ≡ Some x)
there xs i below = ⊎_elim (λ p. (p.0, p.2)) (λ p. absurd (omega (arith, p.0, below))) (slice_get_cases xs i).1

same_row : (a b : RowId) → a.0 ≡ b.0 → a ≡ b
same_row a b e = ap (λ (n : ℕ). let x : RowId = record { 0 = n } in x) e

same_entity : (a b : EntId) → a.0 ≡ b.0 → a ≡ b
same_entity a b e = ap (λ (n : ℕ). let x : EntId = record { 0 = n } in x) e

-- rows that ascend stand once each, and entities too
one_row : (rows : List RowId) (i j : ℕ) (x : RowId) → RowsAscend rows → slice_get rows i ≡ Some x
    → slice_get rows j ≡ Some x → i ≡ j
one_row rows i j x ascend at at' =
    ⊎_elim
    (λ (low : i < j). absurd (omega (arith, ascend i j x x low at at')))
    (λ (high : j ≤ i).
    ⊎_elim
    (λ (e : i ≡ j). e)
    (λ (apart : i ≡ j → ⊥). let less : j < i = omega (arith, high, apart) in absurd (omega (arith, ascend j i x x less at' at)))
    (cases_eq i j))
    (cases_lt i j)

pub one_entity : (entities : List EntId) (i j : ℕ) (x : EntId) → EntitiesAscend entities → slice_get entities i ≡ Some x
    → slice_get entities j ≡ Some x → i ≡ j
one_entity entities i j x ascend at at' =
    ⊎_elim
    (λ (low : i < j). absurd (omega (arith, ascend i j x x low at at')))
    (λ (high : j ≤ i).
    ⊎_elim
    (λ (e : i ≡ j). e)
    (λ (apart : i ≡ j → ⊥). let less : j < i = omega (arith, high, apart) in absurd (omega (arith, ascend j i x x less at' at)))
    (cases_eq i j))
    (cases_lt i j)

-- ---- the entity of a row

pub entity_of_row : (rows : List Row) (n : ℕ) (one : Row) → slice_get rows n ≡ Some one → entity_of rows n ≡ Some one.entity.0
entity_of_row [] n one at = absurd (none-some one at)
entity_of_row (r ∷ rows) zero one at = ap (λ (q : Row). Some q.entity.0) (same_Some r one at)
entity_of_row (r ∷ rows) (suc n) one at = entity_of_row rows n one at

row_of_entity : (rows : List Row) (n ent : ℕ) → entity_of rows n ≡ Some ent
    → (one : Row) × (slice_get rows n ≡ Some one) × (one.entity.0 ≡ ent)
row_of_entity [] n ent of = absurd (none-some ent of)
row_of_entity (r ∷ rows) zero ent of = (r, refl, same_Some r.entity.0 ent of)
row_of_entity (r ∷ rows) (suc n) ent of = row_of_entity rows n ent of

pub same_number : (rows : List Row) (n a b : ℕ) → entity_of rows n ≡ Some a → entity_of rows n ≡ Some b → a ≡ b
same_number rows n a b of_a of_b = same_Some a b (sym of_a ∙ of_b)

-- each row stands for one of the entities
pub entity_below : (r : Relation) (row ent : ℕ) → IsRelation r → entity_of r.rows row ≡ Some ent → ent < length r.entities
entity_below r row ent facts of =
    let found = row_of_entity r.rows row ent of in
    subst (λ n. n < length r.entities) found.2
    (all_at (λ (q : Row). q.entity.0 < length r.entities) r.rows row found.0 facts.entities found.1)

-- an attribute that has a kind is there
pub attr_within : (r : Relation) (attr : ℕ) → attr < length (kinds_of r) → attr < length r.attrs
attr_within r attr below = let e = length-map r.attrs (λ a. a.kind) in omega arith

-- ---- a relation and its part

-- the list of an attribute and an entity
abbrev pub list_at : Lists → ℕ → ℕ → List RowId
list_at lists attr ent = slice_index_or (slice_index_or lists attr []) ent []

-- a relation, a part of it, the rows and entities that the part has, and the lists of both
pub record Cut : Type 0 where
  pub scope : Scope
  pub rel : ℕ
  pub whole : Relation
  pub part : Relation
  pub rows : List RowId
  pub entities : List EntId
  pub lists : Lists
  pub part_lists : Lists

-- the part is one of the relation, and its lists say what those of the relation say of its rows
pub record IsCut (k : Cut) : Type 0 where
  pub facts : IsRelation k.whole
  pub is_part : IsRelationPart k.whole k.rows k.entities k.part
  pub rows_ascend : RowsAscend k.rows
  pub entities_ascend : EntitiesAscend k.entities
  pub rows_are : (row : RowId) → Contains k.rows row ↔ IsRowIn k.scope k.rel k.whole.rows row
  pub entities_are : (ent : EntId) → Contains k.entities ent ↔ ((ent.0 < length k.whole.entities) × (k.scope k.rel ent.0 ≡ true))
  pub listed : (attr : ℕ) → attr < length k.whole.attrs → length (slice_index_or k.part_lists attr []) ≡ length k.part.entities
  pub within : (attr ent : ℕ) → All (λ row. row.0 < length k.rows) (list_at k.part_lists attr ent)
  pub same : (attr : ℕ) → attr < length k.whole.attrs → (ent : ℕ) (old : EntId) → slice_get k.entities ent ≡ Some old
      → list_at k.lists attr old.0 ≡ map (whole_row k.rows) (list_at k.part_lists attr ent)

-- a row of the part and the row of the whole that it is: of one entity, and with the same values
pub record IsRowCut (k : Cut) (row old : RowId) : Type 0 where
  pub ent : ℕ
  pub old_ent : EntId
  pub is_ent : slice_get k.entities ent ≡ Some old_ent
  pub of_part : entity_of k.part.rows row.0 ≡ Some ent
  pub of_whole : entity_of k.whole.rows old.0 ≡ Some old_ent.0
  pub value : (attr : ℕ) → field_value k.part.rows (Some row) attr ≡ field_value k.whole.rows (Some old) attr

pub row_cut : (k : Cut) (row old : RowId) → IsCut k → slice_get k.rows row.0 ≡ Some old → IsRowCut k row old
row_cut k row old is at =
    let below : row.0 < length k.part.rows =
    (let inside = slice_get_within k.rows row.0 old at in omega (arith, inside, is.is_part.per_row)) in
    let one = there k.part.rows row.0 below in
    let made = is.is_part.each_row row.0 old one.0 at one.1 in
    record {
      ent = one.0.entity.0;
      old_ent = made.old.entity;
      is_ent = made.entity;
      of_part = entity_of_row k.part.rows row.0 one.0 one.1;
      of_whole = entity_of_row k.whole.rows old.0 made.old made.is_old;
      value = λ attr. ap (λ (o : Option Row). value_in o attr) one.1
          ∙ (ap (λ (vs : List Value). slice_get vs attr) made.values
          ∙ sym (ap (λ (o : Option Row). value_in o attr) made.is_old));
    }

-- a row of the part is there
pub row_there : (k : Cut) (row : RowId) (ent : ℕ) → IsCut k → entity_of k.part.rows row.0 ≡ Some ent
    → (old : RowId) × (slice_get k.rows row.0 ≡ Some old)
row_there k row ent is of =
    let found = row_of_entity k.part.rows row.0 ent of in
    let below : row.0 < length k.rows = (let inside =
    slice_get_within k.part.rows row.0 found.0 found.1 in omega (arith, inside, is.is_part.per_row)) in
    there k.rows row.0 below

-- a row of the whole that is of an entity in the scope is one of the part
pub old_there : (k : Cut) (old : RowId) (ent : ℕ) → IsCut k → entity_of k.whole.rows old.0 ≡ Some ent → k.scope k.rel ent ≡ true
    → (row : RowId) × (slice_get k.rows row.0 ≡ Some old)
old_there k old ent is of inside =
    let found = place_of k.rows old ((is.rows_are old).1 (record { ent = ent; is_of = of; is_in = inside })) in
    let row : RowId = record { 0 = found.0 } in
    (row, found.1)

-- and an entity of a row of the part is in the scope
pub scope_of : (k : Cut) (row old : RowId) (ent : ℕ) → IsCut k → slice_get k.rows row.0 ≡ Some old
    → entity_of k.whole.rows old.0 ≡ Some ent
    → k.scope k.rel ent ≡ true
scope_of k row old ent is at of =
    let found = (is.rows_are old).0 (at_place k.rows row.0 old at) in
    subst (λ n. k.scope k.rel n ≡ true) (same_number k.whole.rows old.0 found.ent ent found.is_of of) found.is_in

-- an entity in the scope is one of the part
pub entity_there : (k : Cut) (ent : ℕ) → IsCut k → ent < length k.whole.entities → k.scope k.rel ent ≡ true
    → (at : ℕ) × (old : EntId) × (slice_get k.entities at ≡ Some old) × (old.0 ≡ ent)
entity_there k ent is below inside =
    let old : EntId = record { 0 = ent } in
    let found = place_of k.entities old ((is.entities_are old).1 (below, inside)) in
    (found.0, old, found.1, refl)

-- two rows of the part are one where they are one of the whole
pub one_part : (k : Cut) (a b old : RowId) → IsCut k → slice_get k.rows a.0 ≡ Some old → slice_get k.rows b.0 ≡ Some old → a ≡ b
one_part k a b old is at at' = same_row a b (one_row k.rows a.0 b.0 old is.rows_ascend at at')

-- rows of the part that are of its entity are of the whole's, and the other way round
pub of_whole : (k : Cut) (row old : RowId) (ent : ℕ) (old_ent : EntId) → IsCut k → slice_get k.rows row.0 ≡ Some old
    → slice_get k.entities ent ≡ Some old_ent
    → entity_of k.part.rows row.0 ≡ Some ent → entity_of k.whole.rows old.0 ≡ Some old_ent.0
of_whole k row old ent old_ent is at is_ent of =
    let cut = row_cut k row old is at in
    let same : cut.ent ≡ ent = same_number k.part.rows row.0 cut.ent ent cut.of_part of in
    let one : cut.old_ent ≡ old_ent = same_Some cut.old_ent old_ent
    (sym cut.is_ent ∙ (ap (slice_get k.entities) same ∙ is_ent)) in
    cut.of_whole ∙ ap (λ (e : EntId). Some e.0) one

pub of_part : (k : Cut) (row old : RowId) (ent : ℕ) (old_ent : EntId) → IsCut k → slice_get k.rows row.0 ≡ Some old
    → slice_get k.entities ent ≡ Some old_ent
    → entity_of k.whole.rows old.0 ≡ Some old_ent.0 → entity_of k.part.rows row.0 ≡ Some ent
of_part k row old ent old_ent is at is_ent of =
    let cut = row_cut k row old is at in
    let one : cut.old_ent ≡ old_ent = same_entity cut.old_ent old_ent
    (same_number k.whole.rows old.0 cut.old_ent.0 old_ent.0 cut.of_whole of) in
    let same : cut.ent ≡ ent = one_entity k.entities cut.ent ent old_ent is.entities_ascend (cut.is_ent ∙ ap Some one) is_ent in
    cut.of_part ∙ ap Some same
