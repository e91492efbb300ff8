-- Which rows stand in the list of an entity's rows, and in which order.
use Rattle.std.proofs.Common.{◌≡◌, ◌≢◌, ◌⊎◌, ◌==◌, ◌+◌, ◌<◌, ℕ, zero, suc, true, false, cond, List, [], ◌∷◌, Some, slice_get, sym, ap, ◌∙◌, inl, inr, arith, zero-add}
use Rattle.std.proofs.lemmas.Bool.Decides.{eqb_tells}
use Rattle.std.proofs.lemmas.Option.{same_Some, none-some}
use Rattle.partial_orders.specs.Pairs.{entity_of}
use Rattle.currency_base.specs.declared.ids.RowId.{RowId}
use Rattle.currency_base.specs.declared.row.Row.{Row}
use Rattle.entity_rows.specs.Members.{members_from, members}

-- a row in the list is one of these rows, by its number, and of the entity
pub record IsMember (first : ℕ) (rows : List Row) (ent : ℕ) (row : RowId) : Type 0 where
  pub place : ℕ
  pub number : row.0 ≡ first + place
  pub of_entity : entity_of rows place ≡ Some ent

later : (first : ℕ) (x : Row) (rows : List Row) (ent : ℕ) (row : RowId) → IsMember (first + 1) rows ent row
    → IsMember first (x ∷ rows) ent row
later first x rows ent row m = record { place = suc m.place; number = omega (arith, m.number); of_entity = m.of_entity }

member_in : (first : ℕ) (rows : List Row) (ent i : ℕ) (row : RowId) → slice_get (members_from first rows ent) i ≡
    Some row → IsMember first rows ent row
member_in first [] ent i row at = absurd (none-some row at)
member_in first (x ∷ rows) ent i row at =
    go (λ j at'. later first x rows ent row (member_in (first + 1) rows ent j row at')) i (eqb_tells x.entity.0 ent) at
  where
    go : ((j : ℕ) → slice_get (members_from (first + 1) rows ent) j ≡ Some row → IsMember first (x ∷ rows) ent row)
        → (i : ℕ) → (((x.entity.0 == ent) ≡ true) × (x.entity.0 ≡ ent)) ⊎ (((x.entity.0 == ent) ≡ false) × (x.entity.0 ≢ ent))
        → slice_get (cond (x.entity.0 == ent) (record { 0 = first } ∷ members_from (first + 1) rows ent)
        (members_from (first + 1) rows ent)) i ≡ Some row
        → IsMember first (x ∷ rows) ent row
    go more zero (inl h) at =
        let first_row : RowId = record { 0 = first } in
        let here : Some first_row ≡ Some row = rw h.0 at at in
        let same = same_Some first_row row here in
        record { place = 0; number = sym (ap (λ (r : RowId). r.0) same) ∙ omega arith; of_entity = ap Some h.1 }
    go more (suc j) (inl h) at = more j (rw h.0 at at)
    go more i (inr h) at = more i (rw h.0 at at)

-- and each such row stands in the list
in_members : (first : ℕ) (rows : List Row) (ent place : ℕ) → entity_of rows place ≡ Some ent
    → (i : ℕ) × (slice_get (members_from first rows ent) i ≡ Some (record { 0 = first + place }))
in_members first [] ent place of = absurd (none-some ent of)
in_members first (x ∷ rows) ent zero of =
    let same : x.entity.0 ≡ ent = same_Some x.entity.0 ent of in
    here (eqb_tells x.entity.0 ent) same
  where
    here : (((x.entity.0 == ent) ≡ true) × (x.entity.0 ≡ ent)) ⊎ (((x.entity.0 == ent) ≡ false) × (x.entity.0 ≢ ent))
        → x.entity.0 ≡ ent
        → (i : ℕ) × (slice_get (cond (x.entity.0 == ent) (record { 0 = first } ∷ members_from (first + 1) rows ent)
        (members_from (first + 1) rows ent)) i ≡ Some (record { 0 = first + 0 }))
    here (inl h) same = (0, rw h.0 (ap (λ (n : ℕ). let r : RowId = record { 0 = n } in Some r) (omega arith)))
    here (inr h) same = absurd (h.1 same)
in_members first (x ∷ rows) ent (suc place) of =
    let found = in_members (first + 1) rows ent place of in
    let number : first + 1 + place ≡ first + suc place = omega arith in
    there (eqb_tells x.entity.0 ent) found.0 (found.1 ∙ ap (λ (n : ℕ). let r : RowId = record { 0 = n } in Some r) number)
  where
    there : (((x.entity.0 == ent) ≡ true) × (x.entity.0 ≡ ent)) ⊎ (((x.entity.0 == ent) ≡ false) × (x.entity.0 ≢ ent))
        → (j : ℕ) → slice_get (members_from (first + 1) rows ent) j ≡ Some (record { 0 = first + suc place })
        → (i : ℕ) × (slice_get (cond (x.entity.0 == ent) (record { 0 = first } ∷ members_from (first + 1) rows ent)
        (members_from (first + 1) rows ent)) i ≡ Some (record { 0 = first + suc place }))
    there (inl h) j at = (suc j, rw h.0 at)
    there (inr h) j at = (j, rw h.0 at)

-- the rows of the list ascend
ascend : (first : ℕ) (rows : List Row) (ent i j : ℕ) (a b : RowId) → slice_get (members_from first rows ent) i ≡ Some
    a → slice_get (members_from first rows ent) j ≡ Some b
    → i < j → a.0 < b.0
ascend first [] ent i j a b at_i at_j below = absurd (none-some a at_i)
ascend first (x ∷ rows) ent i j a b at_i at_j below = go (λ k l at_k at_l. ascend (first + 1) rows ent k l a b at_k
    at_l) i j (eqb_tells x.entity.0 ent) at_i at_j below
  where
    go : ((k l : ℕ) → slice_get (members_from (first + 1) rows ent) k ≡ Some a
        → slice_get (members_from (first + 1) rows ent) l ≡ Some b → k < l → a.0 < b.0)
        → (i j : ℕ) → (((x.entity.0 == ent) ≡ true) × (x.entity.0 ≡ ent)) ⊎ (((x.entity.0 == ent) ≡ false) × (x.entity.0 ≢ ent))
        → slice_get (cond (x.entity.0 == ent) (record { 0 = first } ∷ members_from (first + 1) rows ent)
        (members_from (first + 1) rows ent)) i ≡ Some a
        → slice_get (cond (x.entity.0 == ent) (record { 0 = first } ∷ members_from (first + 1) rows ent)
        (members_from (first + 1) rows ent)) j ≡ Some b
        → i < j → a.0 < b.0
    go more i zero tells at_i at_j below = absurd (omega arith)
    go more zero (suc j) (inl h) at_i at_j below =
        let first_row : RowId = record { 0 = first } in
        let here : Some first_row ≡ Some a = rw h.0 at at_i in
        let there : slice_get (members_from (first + 1) rows ent) j ≡ Some b = rw h.0 at at_j in
        let same : first ≡ a.0 = ap (λ (r : RowId). r.0) (same_Some first_row a here) in
        let m = member_in (first + 1) rows ent j b there in
        omega (arith, m.number, same)
    go more (suc i) (suc j) (inl h) at_i at_j below = more i j (rw h.0 at at_i) (rw h.0 at at_j) (omega arith)
    go more i (suc j) (inr h) at_i at_j below = more i (suc j) (rw h.0 at at_i) (rw h.0 at at_j) below

-- a row of the list is of the entity
pub member_of_entity : (rows : List Row) (ent i : ℕ) (row : RowId) → slice_get (members rows ent) i ≡ Some row
    → entity_of rows row.0 ≡ Some ent
member_of_entity rows ent i row at =
    let m = member_in 0 rows ent i row at in
    let number : row.0 ≡ m.place = m.number ∙ zero-add m.place in
    ap (entity_of rows) number ∙ m.of_entity

-- a row of the entity stands in the list
pub entity_member : (rows : List Row) (ent : ℕ) (row : RowId) → entity_of rows row.0 ≡ Some ent →
    (i : ℕ) × (slice_get (members rows ent) i ≡ Some row)
entity_member rows ent row of =
    let found = in_members 0 rows ent row.0 of in
    (found.0, found.1 ∙ ap (λ (n : ℕ). let r : RowId = record { 0 = n } in Some r) (zero-add row.0))

-- the rows of the list ascend
pub members_ascend : (rows : List Row) (ent i j : ℕ) (a b : RowId) → slice_get (members rows ent) i ≡ Some a
    → slice_get (members rows ent) j ≡ Some b
    → i < j → a.0 < b.0
members_ascend rows ent i j a b at_i at_j below = ascend 0 rows ent i j a b at_i at_j below
