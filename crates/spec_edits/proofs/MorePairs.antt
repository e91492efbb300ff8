-- A copy function that maps one row more has twice the row's partners as many ordered pairs more.
use Rattle.std.proofs.Common.{◌≡◌, ◌≢◌, ◌<◌, ◌+◌, ◌*◌, ◌∙◌, ◌&&◌, ℕ, Bool, true, false, not, cond, eqb, List, length, Option, Some, None, refl, sym, ap, ap₂, ⊎_elim}
use Rattle.std.proofs.lemmas.Bool.{cases_eq, eq-eqb, ne_eqb}
use Rattle.copy_functions.specs.Copies.{CopyFunction, Maps, source_at}
use Rattle.currency_base.specs.declared.ids.RowId.{RowId}
use Rattle.currency_base.specs.declared.row.Row.{Row}
use Rattle.partial_orders.specs.Pairs.{entity_of}
use Rattle.spec_limits.specs.Instances.{are_of_one_entity, are_sources_of_one, copy_pairs, copy_partners, is_copy_instance, is_one_entity}
use Rattle.spec_edits.specs.Partners.{is_partner, partners}
use Rattle.spec_edits.proofs.CrossSums.{cross_sum, sum_same}

-- ---- two rows of one entity, either way round

eqb_turned : (a b : ℕ) → eqb a b ≡ eqb b a
eqb_turned a b =
    ⊎_elim (λ (is : a ≡ b). eq-eqb a b is ∙ sym (eq-eqb b a (sym is)))
    (λ (apart : a ≡ b → ⊥). ne_eqb a b apart ∙ sym (ne_eqb b a (λ e. apart (sym e)))) (cases_eq a b)

entity_turned : (a b : Option ℕ) → is_one_entity a b ≡ is_one_entity b a
entity_turned None None = refl
entity_turned None (Some y) = refl
entity_turned (Some x) None = refl
entity_turned (Some x) (Some y) = eqb_turned x y

rows_turned : (rows : List Row) (a b : RowId) → are_of_one_entity rows a b ≡ are_of_one_entity rows b a
rows_turned rows a b =
    ap₂ (λ (x y : Bool). not x && y) (eqb_turned a.0 b.0) (entity_turned (entity_of rows a.0) (entity_of rows b.0))

sources_turned : (rows : List Row) (a b : Option RowId) → are_sources_of_one rows a b ≡ are_sources_of_one rows b a
sources_turned rows None None = refl
sources_turned rows None (Some y) = refl
sources_turned rows (Some x) None = refl
sources_turned rows (Some x) (Some y) = rows_turned rows x y

-- a row is not of one entity with itself, as another row
not_itself : (rows : List Row) (a : RowId) → are_of_one_entity rows a a ≡ false
not_itself rows a =
    ap (λ (x : Bool). not x && is_one_entity (entity_of rows a.0) (entity_of rows a.0)) (eq-eqb a.0 a.0 refl)

no_source : (rows : List Row) (a : Option RowId) → are_sources_of_one rows a None ≡ false
no_source rows None = refl
no_source rows (Some x) = refl

and_false : (a : Bool) → (a && false) ≡ false
and_false true = refl
and_false false = refl

-- ---- the pairs as a table

-- a row by its number
abbrev row_of : ℕ → RowId
row_of n = record { 0 = n }

-- 1 for each two rows that are an instance
abbrev pair_table : CopyFunction → List Row → List Row → ℕ → ℕ → ℕ
pair_table copy target_rows source_rows i j = cond (is_copy_instance copy target_rows source_rows (row_of i) (row_of j)) 1 0

one_or_none : (a b : Bool) → a ≡ b → ◌≡◌ {A = ℕ} (cond a 1 0) (cond b 1 0)
one_or_none a b same = ap (λ (x : Bool). let n : ℕ = cond x 1 0 in n) same

-- the new copy function maps one row more than the old one
module _ (old new : CopyFunction) (target source : RowId) (unmapped : source_at old target ≡ None)
    (maps : Maps old new target source) (target_rows source_rows : List Row) where
  other_row : (i : ℕ) → i ≢ target.0 → source_at new (row_of i) ≡ source_at old (row_of i)
  other_row i apart = maps.others (row_of i) (λ e. apart (ap (λ (r : RowId). r.0) e))

  same_pair : (i j : ℕ) → i ≢ target.0 → j ≢ target.0
      → pair_table new target_rows source_rows i j ≡ pair_table old target_rows source_rows i j
  same_pair i j apart other =
      one_or_none _ _ (ap₂ (λ (x y : Option RowId). are_of_one_entity target_rows (row_of i) (row_of j)
      && are_sources_of_one source_rows x y) (other_row i apart) (other_row j other))

  no_column : (i : ℕ) → pair_table old target_rows source_rows i target.0 ≡ 0
  no_column i =
      one_or_none _ false (ap (λ (x : Option RowId). are_of_one_entity target_rows (row_of i) target
      && are_sources_of_one source_rows (source_at old (row_of i)) x) unmapped
      ∙ (ap (λ (b : Bool). are_of_one_entity target_rows (row_of i) target && b)
      (no_source source_rows (source_at old (row_of i))) ∙ and_false (are_of_one_entity target_rows (row_of i) target)))

  no_row : (j : ℕ) → pair_table old target_rows source_rows target.0 j ≡ 0
  no_row j =
      one_or_none _ false (ap (λ (x : Option RowId). are_of_one_entity target_rows target (row_of j)
      && are_sources_of_one source_rows x (source_at old (row_of j))) unmapped
      ∙ and_false (are_of_one_entity target_rows target (row_of j)))

  pair_turned : (i : ℕ) → pair_table new target_rows source_rows i target.0 ≡ pair_table new target_rows source_rows target.0 i
  pair_turned i =
      one_or_none _ _ (ap₂ (λ (x y : Bool). x && y) (rows_turned target_rows (row_of i) target)
      (sources_turned source_rows (source_at new (row_of i)) (source_at new target)))

  no_corner : pair_table new target_rows source_rows target.0 target.0 ≡ 0
  no_corner =
      one_or_none _ false (ap (λ (b : Bool). b && are_sources_of_one source_rows (source_at new target) (source_at new target))
      (not_itself target_rows target))

  -- twice the partners more
  pub pairs_more : target.0 < length target_rows → copy_pairs new target_rows source_rows
      ≡ copy_pairs old target_rows source_rows + 2 * copy_partners new target_rows source_rows target.0
  unfolding copy_pairs copy_partners
  pairs_more within =
      cross_sum (pair_table old target_rows source_rows) (pair_table new target_rows source_rows) target.0
      (length target_rows) within same_pair no_column no_row pair_turned no_corner

  -- a partner, as it is told from the copy function with the row mapped
  partner_new : (j : ℕ) → is_partner new target_rows source_rows target source (row_of j)
      ≡ is_copy_instance new target_rows source_rows target (row_of j)
  partner_new j =
      ap (λ (x : Option RowId). are_of_one_entity target_rows target (row_of j)
      && are_sources_of_one source_rows x (source_at new (row_of j))) (sym maps.mapped)

  pub partners_new : partners new target_rows source_rows target source ≡ copy_partners new target_rows source_rows target.0
  unfolding partners copy_partners
  partners_new =
      sum_same (λ j. cond (is_partner new target_rows source_rows target source (row_of j)) 1 0)
      (pair_table new target_rows source_rows target.0) 0 (length target_rows)
      (λ j above. one_or_none _ _ (partner_new j))

  -- and as it is told from the one without it
  partner_old : (j : ℕ) → is_partner old target_rows source_rows target source (row_of j)
      ≡ is_partner new target_rows source_rows target source (row_of j)
  partner_old j =
      ⊎_elim
      (λ (is : j ≡ target.0).
      let none : are_of_one_entity target_rows target (row_of j) ≡ false =
      ap (λ (n : ℕ). are_of_one_entity target_rows target (row_of n)) is ∙ not_itself target_rows target in
      ap (λ (b : Bool). b && are_sources_of_one source_rows (Some source) (source_at old (row_of j))) none
      ∙ sym (ap (λ (b : Bool). b && are_sources_of_one source_rows (Some source) (source_at new (row_of j))) none))
      (λ (apart : j ≡ target.0 → ⊥).
      ap (λ (x : Option RowId). are_of_one_entity target_rows target (row_of j)
      && are_sources_of_one source_rows (Some source) x) (sym (other_row j apart)))
      (cases_eq j target.0)

  same_partners : partners old target_rows source_rows target source ≡ partners new target_rows source_rows target source
  unfolding partners
  same_partners =
      sum_same (λ j. cond (is_partner old target_rows source_rows target source (row_of j)) 1 0)
      (λ j. cond (is_partner new target_rows source_rows target source (row_of j)) 1 0) 0 (length target_rows)
      (λ j above. one_or_none _ _ (partner_old j))

  pub partners_old : partners old target_rows source_rows target source ≡ copy_partners new target_rows source_rows target.0
  partners_old = same_partners ∙ partners_new
