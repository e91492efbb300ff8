-- The rows of an entity among all rows, and those of them that pass a test.
use Rattle.std.proofs.Common.{◌≡◌, ◌≢◌, ◌⊎◌, ◌==◌, ◌+◌, ℕ, Bool, zero, suc, true, false, cond, List, [], ◌∷◌, Some, map, length, slice_get, sym, ap, refl, ◌∙◌, inl, inr, arith}
use Rattle.std.proofs.lemmas.Bool.Decides.{eqb_tells}
use Rattle.std.specs.List.{filter, range_with_len}
use Rattle.currency_base.specs.declared.ids.RowId.{RowId}
use Rattle.currency_base.specs.declared.row.Row.{Row}
use Rattle.entity_lists.specs.Lists.{entities_of, rows_from, rows_of}
use Rattle.entity_lists.proofs.Facts.{member_of}
use Rattle.partial_orders.specs.Pairs.{entity_of}

-- how a test of two numbers goes
abbrev Tells : ℕ → ℕ → Type 0
Tells x ent = (((x == ent) ≡ true) × (x ≡ ent)) ⊎ (((x == ent) ≡ false) × (x ≢ ent))

-- the entity of a row, by the entity of each row
pub entity_is : (rows : List Row) (row : ℕ) → entity_of rows row ≡ slice_get (entities_of rows) row
entity_is [] row = refl
entity_is (x ∷ rows) zero = refl
entity_is (x ∷ rows) (suc row) = entity_is rows row

-- a row of an entity's rows is of the entity
pub member_is : (rows : List Row) (es : List ℕ) (ent i : ℕ) (row : RowId) → es ≡ entities_of rows
    → slice_get (rows_of es ent) i ≡ Some row
    → entity_of rows row.0 ≡ Some ent
member_is rows es ent i row same at =
    entity_is rows row.0 ∙ ap (λ es. slice_get es row.0) (sym same) ∙ member_of es ent i row at

-- a test that no row of another entity passes keeps the same of all rows
pub kept_of_entity : (p : RowId → Bool) (first : ℕ) (es : List ℕ) (ent : ℕ)
    → ((i e : ℕ) (row : RowId) → slice_get es i ≡ Some e → row.0 ≡ first + i → e ≢ ent → p row ≡ false)
    → filter p (rows_from first es ent) ≡ filter p (map (λ at. record { 0 = at }) (range_with_len first (length es)))
kept_of_entity p first [] ent others = refl
kept_of_entity p first (x ∷ es) ent others =
    go (kept_of_entity p (first + 1) es ent (λ i e row at number differs. others (suc i) e row at
    (omega (arith, number)) differs)) (eqb_tells x ent)
  where
    rest : List RowId
    rest = filter p (map (λ at. record { 0 = at }) (range_with_len (first + 1) (length es)))

    here : RowId
    here = record { 0 = first }

    go : filter p (rows_from (first + 1) es ent) ≡ rest → Tells x ent
        → filter p (cond (x == ent) (here ∷ rows_from (first + 1) es ent) (rows_from (first + 1) es ent))
        ≡ cond (p here) (here ∷ rest) rest
    go more (inl h) = rw h.0 (ap (λ rs. cond (p here) (here ∷ rs) rs) more)
    go more (inr h) = rw (h.0, others 0 x here refl (omega arith) h.1) more
