-- Where mapped rows are copies, they still are with one row mapped more.
use Rattle.std.proofs.Common.{◌≡◌, ◌≢◌, ◌⊎◌, ◌==◌, ℕ, true, false, List, Option, Some, sym, ap, subst, ◌∙◌, inl, inr}
use Rattle.std.proofs.lemmas.Bool.Decides.{eqb_tells}
use Rattle.std.proofs.lemmas.Option.{same_Some}
use Rattle.currency_base.specs.declared.ids.RowId.{RowId}
use Rattle.currency_base.specs.declared.row.Row.{Row}
use Rattle.copy_functions.specs.Copies.{source_in, IsPut, IsCopyOf}
use Rattle.copy_functions.specs.declared.place.Place.{Place}

pub copied_more : (places : List Place) (target_rows source_rows : List Row) (old new : List (Option RowId))
    (target source : RowId)
    → IsPut old new target source → IsCopyOf places target_rows source_rows target source
    → ((t s : RowId) → source_in old t ≡ Some s → IsCopyOf places target_rows source_rows t s)
    → (t s : RowId) → source_in new t ≡ Some s → IsCopyOf places target_rows source_rows t s
copied_more places target_rows source_rows old new target source put one were t s at = go (eqb_tells t.0 target.0)
  where
    go : (((t.0 == target.0) ≡ true) × (t.0 ≡ target.0)) ⊎ (((t.0 == target.0) ≡ false) × (t.0 ≢ target.0))
        → IsCopyOf places target_rows source_rows t s
    go (inl h) =
        let same : t ≡ target = ap (λ (n : ℕ). let r : RowId = record { 0 = n } in r) h.1 in
        let mapped : Some source ≡ Some s = sym put.mapped ∙ ap (source_in new) (sym same) ∙ at in
        subst (λ (r : RowId). IsCopyOf places target_rows source_rows r s) (sym same)
        (subst (λ (r : RowId). IsCopyOf places target_rows source_rows target r) (same_Some source s mapped) one)
    go (inr h) = were t s (sym (put.others t (λ e. h.1 (ap (λ (r : RowId). r.0) e))) ∙ at)
