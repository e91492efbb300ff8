-- Which rows stand in the list of an entity's rows, and in which order.
use Rattle.std.proofs.Common.{◌≡◌, ◌≢◌, ◌⊎◌, ◌==◌, ◌+◌, ◌<◌, ◌≤◌, ℕ, zero, suc, true, false, cond, List, [], ◌∷◌, Some, length, slice_get, option_map, sym, ap, ◌∙◌, inl, inr, arith, zero-add}
use Rattle.std.proofs.lemmas.Bool.Decides.{eqb_tells}
use Rattle.std.proofs.lemmas.Bool.{cases_lt}
use Rattle.std.proofs.lemmas.List.{length-map}
use Rattle.std.proofs.lemmas.Option.{same_Some, none-some, slice_get-map}
use Rattle.currency_base.specs.Lists.{OnlyOnce}
use Rattle.currency_base.specs.declared.ids.RowId.{RowId}
use Rattle.currency_base.specs.declared.row.Row.{Row}
use Rattle.entity_lists.specs.Lists.{entities_of, rows_from, rows_of}

-- a row in the list is one of these rows, by its number, and of the entity
pub record IsMember (first : ℕ) (entities : List ℕ) (ent : ℕ) (row : RowId) : Type 0 where
  pub place : ℕ
  pub number : row.0 ≡ first + place
  pub of_entity : slice_get entities place ≡ Some ent

later : (first e : ℕ) (es : List ℕ) (ent : ℕ) (row : RowId) → IsMember (first + 1) es ent row → IsMember first (e ∷ es) ent row
later first e es ent row m = record { place = suc m.place; number = omega (arith, m.number); of_entity = m.of_entity }

-- a row that stands in the list is of the entity
pub member_from : (first : ℕ) (entities : List ℕ) (ent i : ℕ) (row : RowId)
    → slice_get (rows_from first entities ent) i ≡ Some row → IsMember first entities ent row
member_from first [] ent i row at = absurd (none-some row at)
member_from first (e ∷ es) ent i row at =
    go (λ j at'. later first e es ent row (member_from (first + 1) es ent j row at')) i (eqb_tells e ent) at
  where
    go : ((j : ℕ) → slice_get (rows_from (first + 1) es ent) j ≡ Some row → IsMember first (e ∷ es) ent row)
        → (i : ℕ) → (((e == ent) ≡ true) × (e ≡ ent)) ⊎ (((e == ent) ≡ false) × (e ≢ ent))
        → slice_get (cond (e == ent) (record { 0 = first } ∷ rows_from (first + 1) es ent)
        (rows_from (first + 1) es ent)) i ≡ Some row
        → IsMember first (e ∷ es) ent row
    go more zero (inl h) at =
        let first_row : RowId = record { 0 = first } in
        let here : Some first_row ≡ Some row = rw h.0 at at in
        let same = same_Some first_row row here in
        record { place = 0; number = sym (ap (λ (r : RowId). r.0) same) ∙ omega arith; of_entity = ap Some h.1 }
    go more (suc j) (inl h) at = more j (rw h.0 at at)
    go more i (inr h) at = more i (rw h.0 at at)

-- a row of the entity stands in the list
pub found_from : (first : ℕ) (entities : List ℕ) (ent place : ℕ) → slice_get entities place ≡ Some ent
    → (i : ℕ) × (slice_get (rows_from first entities ent) i ≡ Some (record { 0 = first + place }))
found_from first [] ent place of = absurd (none-some ent of)
found_from first (e ∷ es) ent zero of = here (eqb_tells e ent) (same_Some e ent of)
  where
    here : (((e == ent) ≡ true) × (e ≡ ent)) ⊎ (((e == ent) ≡ false) × (e ≢ ent)) → e ≡ ent
        → (i : ℕ) × (slice_get (cond (e == ent) (record { 0 = first } ∷ rows_from (first + 1) es ent)
        (rows_from (first + 1) es ent)) i ≡ Some (record { 0 = first + 0 }))
    here (inl h) same = (0, rw h.0 (ap (λ (n : ℕ). let r : RowId = record { 0 = n } in Some r) (omega arith)))
    here (inr h) same = absurd (h.1 same)
found_from first (e ∷ es) ent (suc place) of =
    let found = found_from (first + 1) es ent place of in
    let number : first + 1 + place ≡ first + suc place = omega arith in
    there (eqb_tells e ent) found.0 (found.1 ∙ ap (λ (n : ℕ). let r : RowId = record { 0 = n } in Some r) number)
  where
    there : (((e == ent) ≡ true) × (e ≡ ent)) ⊎ (((e == ent) ≡ false) × (e ≢ ent))
        → (j : ℕ) → slice_get (rows_from (first + 1) es ent) j ≡ Some (record { 0 = first + suc place })
        → (i : ℕ) × (slice_get (cond (e == ent) (record { 0 = first } ∷ rows_from (first + 1) es ent)
        (rows_from (first + 1) es ent)) i ≡ Some (record { 0 = first + suc place }))
    there (inl h) j at = (suc j, rw h.0 at)
    there (inr h) j at = (j, rw h.0 at)

-- the rows of the list ascend
pub ascend_from : (first : ℕ) (entities : List ℕ) (ent i j : ℕ) (a b : RowId)
    → slice_get (rows_from first entities ent) i ≡ Some a → slice_get (rows_from first entities ent) j ≡ Some b
    → i < j → a.0 < b.0
ascend_from first [] ent i j a b at_i at_j below = absurd (none-some a at_i)
ascend_from first (e ∷ es) ent i j a b at_i at_j below = go (λ k l at_k at_l. ascend_from (first + 1) es ent k l a b
    at_k at_l) i j (eqb_tells e ent) at_i at_j below
  where
    go : ((k l : ℕ) → slice_get (rows_from (first + 1) es ent) k ≡ Some a → slice_get (rows_from (first + 1) es ent)
        l ≡ Some b → k < l → a.0 < b.0)
        → (i j : ℕ) → (((e == ent) ≡ true) × (e ≡ ent)) ⊎ (((e == ent) ≡ false) × (e ≢ ent))
        → slice_get (cond (e == ent) (record { 0 = first } ∷ rows_from (first + 1) es ent)
        (rows_from (first + 1) es ent)) i ≡ Some a
        → slice_get (cond (e == ent) (record { 0 = first } ∷ rows_from (first + 1) es ent)
        (rows_from (first + 1) es ent)) j ≡ Some b
        → i < j → a.0 < b.0
    go more i zero tells at_i at_j below = absurd (omega arith)
    go more zero (suc j) (inl h) at_i at_j below =
        let first_row : RowId = record { 0 = first } in
        let here : Some first_row ≡ Some a = rw h.0 at at_i in
        let there : slice_get (rows_from (first + 1) es ent) j ≡ Some b = rw h.0 at at_j in
        let same : first ≡ a.0 = ap (λ (r : RowId). r.0) (same_Some first_row a here) in
        let m = member_from (first + 1) es ent j b there in
        omega (arith, m.number, same)
    go more (suc i) (suc j) (inl h) at_i at_j below = more i j (rw h.0 at at_i) (rw h.0 at at_j) (omega arith)
    go more i (suc j) (inr h) at_i at_j below = more i (suc j) (rw h.0 at at_i) (rw h.0 at at_j) below

-- no row stands at two places of the list
pub once_from : (first : ℕ) (entities : List ℕ) (ent : ℕ) → OnlyOnce (rows_from first entities ent)
once_from first entities ent i j row at_i at_j = by (cases_lt i j) (cases_lt j i)
  where
    by : (i < j) ⊎ (j ≤ i) → (j < i) ⊎ (i ≤ j) → i ≡ j
    by (inl below) other = absurd (omega (arith, ascend_from first entities ent i j row row at_i at_j below))
    by (inr above) (inl below) = absurd (omega (arith, ascend_from first entities ent j i row row at_j at_i below))
    by (inr above) (inr below) = omega arith

-- a row that stands in the list is of the entity
pub member_of : (entities : List ℕ) (ent i : ℕ) (row : RowId) → slice_get (rows_of entities ent) i ≡ Some row
    → slice_get entities row.0 ≡ Some ent
member_of entities ent i row at =
    let m = member_from 0 entities ent i row at in
    let number : row.0 ≡ m.place = m.number ∙ zero-add m.place in
    ap (slice_get entities) number ∙ m.of_entity

-- a row of the entity stands in the list
pub found_in : (entities : List ℕ) (ent : ℕ) (row : RowId) → slice_get entities row.0 ≡ Some ent →
    (i : ℕ) × (slice_get (rows_of entities ent) i ≡ Some row)
found_in entities ent row of =
    let found = found_from 0 entities ent row.0 of in
    (found.0, found.1 ∙ ap (λ (n : ℕ). let r : RowId = record { 0 = n } in Some r) (zero-add row.0))

-- the rows of the list ascend
pub rows_ascend : (entities : List ℕ) (ent i j : ℕ) (a b : RowId) → slice_get (rows_of entities ent) i ≡ Some a
    → slice_get (rows_of entities ent) j ≡ Some b
    → i < j → a.0 < b.0
rows_ascend entities ent i j a b at_i at_j below = ascend_from 0 entities ent i j a b at_i at_j below

-- no row stands at two places of the list
pub rows_once : (entities : List ℕ) (ent : ℕ) → OnlyOnce (rows_of entities ent)
rows_once entities ent = once_from 0 entities ent

-- a row stands in the lists of no two entities
pub one_entity : (entities : List ℕ) (ent other i j : ℕ) (row : RowId) → slice_get (rows_of entities ent) i ≡ Some
    row → slice_get (rows_of entities other) j ≡ Some row → ent ≡ other
one_entity entities ent other i j row at_i at_j =
    same_Some ent other (sym (member_of entities ent i row at_i) ∙ member_of entities other j row at_j)

-- the entity at a row's place is that of the row
pub entities_at : (rows : List Row) (row : ℕ) → slice_get (entities_of rows) row ≡ option_map
    (λ (r : Row). r.entity.0) (slice_get rows row)
entities_at rows row = slice_get-map (λ (r : Row). r.entity.0) rows row

-- the same where there is a row
pub entities_at_row : (rows : List Row) (row : ℕ) (r : Row) → slice_get rows row ≡ Some r
    → slice_get (entities_of rows) row ≡ Some r.entity.0
entities_at_row rows row r at = entities_at rows row ∙ ap (option_map (λ (r : Row). r.entity.0)) at

-- there is an entity at the place of each row
pub length-entities_of : (rows : List Row) → length (entities_of rows) ≡ length rows
length-entities_of rows = length-map rows (λ (r : Row). r.entity.0)
