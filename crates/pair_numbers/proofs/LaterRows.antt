-- The rows of an entity that come after one of them.
use Rattle.std.proofs.Common.{◌≡◌, ◌≢◌, ◌⊎◌, ◌==◌, ◌+◌, ◌<◌, ◌≤◌, ℕ, Bool, zero, suc, true, false, cond, List, [], ◌∷◌, Some, length, drop, slice_get, sym, ap, ◌∙◌, inl, inr, arith}
use Rattle.std.proofs.lemmas.Bool.{cases_lt}
use Rattle.std.proofs.lemmas.Bool.Decides.{eqb_tells}
use Rattle.std.proofs.lemmas.Option.{same_Some, none-some}
use Rattle.currency_base.specs.declared.ids.RowId.{RowId}
use Rattle.entity_lists.specs.Lists.{rows_from, rows_of}
use Rattle.entity_lists.proofs.Facts.{member_from, rows_ascend}

-- how a test of two numbers goes
abbrev Tells : ℕ → ℕ → Type 0
Tells x ent = (((x == ent) ≡ true) × (x ≡ ent)) ⊎ (((x == ent) ≡ false) × (x ≢ ent))

-- of two rows the lesser stands first
pub rows_order : (es : List ℕ) (ent i j : ℕ) (a b : RowId) → slice_get (rows_of es ent) i ≡ Some a
    → slice_get (rows_of es ent) j ≡ Some b
    → a.0 < b.0 → i < j
rows_order es ent i j a b at_i at_j below = go (cases_lt i j)
  where
    go : (i < j) ⊎ (j ≤ i) → i < j
    go (inl h) = h
    go (inr h) = apart (cases_lt j i)
      where
        apart : (j < i) ⊎ (i ≤ j) → i < j
        apart (inl k) = absurd (omega (arith, rows_ascend es ent j i b a at_j at_i k))
        apart (inr k) =
            let same : i ≡ j = omega arith in
            let one = same_Some a b (sym at_i ∙ ap (slice_get (rows_of es ent)) same ∙ at_j) in
            absurd (omega (arith, ap (λ (r : RowId). r.0) one))

-- the rows after a row are the rows of the entity among those that follow it
pub rows_after : (first : ℕ) (es : List ℕ) (ent place i : ℕ) (row : RowId) (next : ℕ) → slice_get es place ≡ Some ent
    → slice_get (rows_from first es ent) i ≡ Some row → row.0 ≡ first + place → next ≡ first + place + 1
    → drop (suc i) (rows_from first es ent) ≡ rows_from next (drop (suc place) es) ent
rows_after first [] ent place i row next of at number is_next = absurd (none-some ent of)
rows_after first (x ∷ es) ent zero i row next of at number is_next = here i (eqb_tells x ent) (same_Some x ent of) at
  where
    here : (i : ℕ) → Tells x ent → x ≡ ent
        → slice_get (cond (x == ent) (record { 0 = first } ∷ rows_from (first + 1) es ent)
        (rows_from (first + 1) es ent)) i ≡ Some row
        → drop (suc i) (cond (x == ent) (record { 0 = first } ∷ rows_from (first + 1) es ent)
        (rows_from (first + 1) es ent)) ≡ rows_from next es ent
    here zero (inl h) same at = rw h.0 (ap (λ n. rows_from n es ent) (omega arith))
    here (suc j) (inl h) same at =
        let m = member_from (first + 1) es ent j row (rw h.0 at at) in
        absurd (omega (arith, m.number))
    here i (inr h) same at = absurd (h.1 same)
rows_after first (x ∷ es) ent (suc place) i row next of at number is_next =
    there (λ j at'. rows_after (first + 1) es ent place j row next of at' (omega (arith, number))
    (omega (arith, is_next))) i (eqb_tells x ent) at
  where
    there : ((j : ℕ) → slice_get (rows_from (first + 1) es ent) j ≡ Some row → drop (suc j)
        (rows_from (first + 1) es ent) ≡ rows_from next (drop (suc place) es) ent)
        → (i : ℕ) → Tells x ent
        → slice_get (cond (x == ent) (record { 0 = first } ∷ rows_from (first + 1) es ent)
        (rows_from (first + 1) es ent)) i ≡ Some row
        → drop (suc i) (cond (x == ent) (record { 0 = first } ∷ rows_from (first + 1) es ent)
        (rows_from (first + 1) es ent)) ≡ rows_from next (drop (suc place) es) ent
    there more zero (inl h) at =
        let first_row : RowId = record { 0 = first } in
        let here : Some first_row ≡ Some row = rw h.0 at at in
        absurd (omega (arith, ap (λ (r : RowId). r.0) (same_Some first_row row here), number))
    there more (suc j) (inl h) at = rw h.0 (more j (rw h.0 at at))
    there more i (inr h) at = rw h.0 (more i (rw h.0 at at))

-- there are no more rows of the entity than rows
pub rows_few : (first : ℕ) (es : List ℕ) (ent : ℕ) → length (rows_from first es ent) ≤ length es
rows_few first [] ent = omega arith
rows_few first (x ∷ es) ent = go (rows_few (first + 1) es ent) (x == ent)
  where
    go : length (rows_from (first + 1) es ent) ≤ length es → (b : Bool)
        → length (cond b (record { 0 = first } ∷ rows_from (first + 1) es ent) (rows_from (first + 1) es ent)) ≤ suc (length es)
    go few true = omega (arith, few)
    go few false = omega (arith, few)
