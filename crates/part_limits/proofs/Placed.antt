-- A relation of a part, by the rows and entities of the whole that it has.
use Rattle.std.proofs.Common.{◌≡◌, ◌⊎◌, ◌<◌, ◌≤◌, ℕ, List, Some, length, slice_get, slice_index_or, sym, ap, subst, ⊎_elim, arith}
use Rattle.std.proofs.lemmas.Bool.{cases_order}
use Rattle.std.proofs.lemmas.Option.{get_or_from_slice_get, slice_get_within}
use Rattle.currency_base.specs.declared.ids.EntId.{EntId}
use Rattle.currency_base.specs.declared.ids.RowId.{RowId}
use Rattle.currency_base.specs.declared.row.Row.{Row}
use Rattle.spec_model.specs.declared.relation.Relation.{Relation}
use Rattle.part_laws.specs.Parts.{RowsAscend, EntitiesAscend, IsRelationPart}
use Rattle.part_laws.proofs.Rows.{there}
use Rattle.part_limits.proofs.Totals.{total, embedded}

-- a relation, a relation of the part, and the rows and entities that this has
pub record Placed : Type 0 where
  pub whole : Relation
  pub part : Relation
  pub rows : List RowId
  pub entities : List EntId

pub record IsPlaced (p : Placed) : Type 0 where
  pub of : IsRelationPart p.whole p.rows p.entities p.part
  pub rows_ascend : RowsAscend p.rows
  pub entities_ascend : EntitiesAscend p.entities
  pub entities_below : (i : ℕ) (ent : EntId) → slice_get p.entities i ≡ Some ent → ent.0 < length p.whole.entities

-- ---- rows

-- the row of the part at a place, and the row of the whole that it is
pub record IsRowAt (p : Placed) (i : ℕ) : Type 0 where
  pub row : RowId
  pub new : Row
  pub old : Row
  pub at : slice_get p.rows i ≡ Some row
  pub at_new : slice_get p.part.rows i ≡ Some new
  pub at_old : slice_get p.whole.rows row.0 ≡ Some old
  pub entity : slice_get p.entities new.entity.0 ≡ Some old.entity

pub row_at : (p : Placed) (i : ℕ) → IsPlaced p → i < length p.part.rows → IsRowAt p i
row_at p i is below =
    let row = there p.rows i (let many = is.of.per_row in omega (arith, below, many)) in
    let new = there p.part.rows i below in
    let made = is.of.each_row i row.0 new.0 row.1 new.1 in
    record { row = row.0; new = new.0; old = made.old; at = row.1; at_new = new.1; at_old = made.is_old; entity = made.entity }

abbrev number_of : List RowId → ℕ → RowId
number_of rows i = slice_index_or rows i (record { 0 = 0 })

is_number : (p : Placed) (i : ℕ) (q : IsRowAt p i) → number_of p.rows i ≡ q.row
is_number p i q = get_or_from_slice_get p.rows i q.row (record { 0 = 0 }) q.at

number_inside : (p : Placed) (i : ℕ) → IsPlaced p → i < length p.part.rows → (number_of p.rows i).0 < length p.whole.rows
number_inside p i is below =
    let q = row_at p i is below in
    subst (λ (x : RowId). x.0 < length p.whole.rows) (sym (is_number p i q))
    (slice_get_within p.whole.rows q.row.0 q.old q.at_old)

numbers_ascend : (p : Placed) (i j : ℕ) → IsPlaced p → i < j → j < length p.part.rows
    → (number_of p.rows i).0 < (number_of p.rows j).0
numbers_ascend p i j is low below =
    let a = row_at p i is (omega (arith, low, below)) in
    let b = row_at p j is below in
    let less = is.rows_ascend i j a.row b.row low a.at b.at in
    omega (arith, less, ap (λ (x : RowId). x.0) (is_number p i a), ap (λ (x : RowId). x.0) (is_number p j b))

-- a sum over the part's rows is no larger than one over those of the whole
pub rows_embedded : (p : Placed) (f g : ℕ → ℕ) → IsPlaced p
    → ((i : ℕ) → i < length p.part.rows → (q : IsRowAt p i) → f i ≤ g q.row.0)
    → total f (length p.part.rows) ≤ total g (length p.whole.rows)
rows_embedded p f g is each =
    embedded f g (λ i. (number_of p.rows i).0) (length p.part.rows) (length p.whole.rows) (λ i. number_inside p i is)
    (λ i j. numbers_ascend p i j is)
    (λ i below. let q = row_at p i is below in subst (λ (x : RowId). f i ≤ g x.0) (sym (is_number p i q)) (each i below q))

-- and so is one over the rows before a row
pub rows_before : (p : Placed) (f g : ℕ → ℕ) (k : ℕ) → IsPlaced p → k < length p.part.rows → (last : IsRowAt p k)
    → ((i : ℕ) → i < k → (q : IsRowAt p i) → f i ≤ g q.row.0)
    → total f k ≤ total g last.row.0
rows_before p f g k is under last each =
    let same = ap (λ (x : RowId). x.0) (is_number p k last) in
    embedded f g (λ i. (number_of p.rows i).0) k last.row.0
    (λ i below. let less = numbers_ascend p i k is below under in omega (arith, less, same))
    (λ i j low below. numbers_ascend p i j is low (omega (arith, below, under)))
    (λ i below.
    let q = row_at p i is (omega (arith, below, under)) in
    subst (λ (x : RowId). f i ≤ g x.0) (sym (is_number p i q)) (each i below q))

-- two rows of the part are one where they are one of the whole
pub one_row : (p : Placed) (i j : ℕ) (x y : RowId) → IsPlaced p → slice_get p.rows i ≡ Some x → slice_get p.rows j ≡ Some y
    → x.0 ≡ y.0 → i ≡ j
one_row p i j x y is at at' same =
    ⊎_elim
    (λ (e : i ≡ j). e)
    (λ (apart : (i < j) ⊎ (j < i)).
    ⊎_elim
    (λ (low : i < j). absurd (let less = is.rows_ascend i j x y low at at' in omega (arith, less, same)))
    (λ (high : j < i). absurd (let less = is.rows_ascend j i y x high at' at in omega (arith, less, same)))
    apart)
    (cases_order i j)

-- ---- entities

abbrev entity_number : List EntId → ℕ → EntId
entity_number entities i = slice_index_or entities i (record { 0 = 0 })

-- a sum over the part's entities is no larger than one over those of the whole
pub entities_embedded : (p : Placed) (f g : ℕ → ℕ) → IsPlaced p
    → ((i : ℕ) (ent : EntId) → slice_get p.entities i ≡ Some ent → f i ≤ g ent.0)
    → total f (length p.part.entities) ≤ total g (length p.whole.entities)
entities_embedded p f g is each =
    embedded f g (λ i. (entity_number p.entities i).0) (length p.part.entities) (length p.whole.entities)
    (λ i below.
    let q = found i below in
    subst (λ (x : EntId). x.0 < length p.whole.entities) (sym (same i q.0 q.1)) (is.entities_below i q.0 q.1))
    (λ i j low below.
    let a = found i (omega (arith, low, below)) in
    let b = found j below in
    let less = is.entities_ascend i j a.0 b.0 low a.1 b.1 in
    omega (arith, less, ap (λ (x : EntId). x.0) (same i a.0 a.1), ap (λ (x : EntId). x.0) (same j b.0 b.1)))
    (λ i below. let q = found i below in subst (λ (x : EntId). f i ≤ g x.0) (sym (same i q.0 q.1)) (each i q.0 q.1))
  where
    found : (i : ℕ) → i < length p.part.entities → (ent : EntId) × (slice_get p.entities i ≡ Some ent)
    found i below = there p.entities i (let many = is.of.per_entity in omega (arith, below, many))

    same : (i : ℕ) (ent : EntId) → slice_get p.entities i ≡ Some ent → entity_number p.entities i ≡ ent
    same i ent at = get_or_from_slice_get p.entities i ent (record { 0 = 0 }) at
