-- A list by rows with one source row more is determined by its length and what stands at each row.
use Rattle.std.proofs.Common.{◌≡◌, ◌+◌, ℕ, zero, suc, max, List, [], ◌∷◌, Option, Some, None, length, refl, sym, ap, ap₂, ◌∙◌, arith, ⊎_elim}
use Rattle.std.specs.List.{slice_index_or}
use Rattle.std.proofs.lemmas.Bool.{cases_eq}
use Rattle.currency_base.specs.declared.ids.RowId.{RowId}
use Rattle.copy_functions.specs.Copies.{put_source, source_in, IsPut}

-- lists of one length with the same at each place are one
same_lists : {A : Type 0} (xs ys : List A) (d : A) → length xs ≡ length ys →
    ((i : ℕ) → slice_index_or xs i d ≡ slice_index_or ys i d) → xs ≡ ys
same_lists [] [] d count each = refl
same_lists [] (y ∷ ys) d count each = absurd (omega arith)
same_lists (x ∷ xs) [] d count each = absurd (omega arith)
same_lists {A} (x ∷ xs) (y ∷ ys) d count each =
    let rest : xs ≡ ys = same_lists xs ys d (omega arith) (λ i. each (suc i)) in
    ap₂ (λ (z : A) (zs : List A). z ∷ zs) (each 0) rest

length_put : (sources : List (Option RowId)) (target : ℕ) (source : RowId)
    → length (put_source sources target source) ≡ max (length sources) (target + 1)
length_put [] zero source = refl
length_put [] (suc target) source = let h = length_put [] target source in omega arith
length_put (x ∷ sources) zero source = omega arith
length_put (x ∷ sources) (suc target) source = let h = length_put sources target source in omega arith

pub put_here : (sources : List (Option RowId)) (target : ℕ) (source : RowId) → slice_index_or
    (put_source sources target source) target None ≡ Some source
put_here [] zero source = refl
put_here [] (suc target) source = put_here [] target source
put_here (x ∷ sources) zero source = refl
put_here (x ∷ sources) (suc target) source = put_here sources target source

pub put_other : (sources : List (Option RowId)) (target : ℕ) (source : RowId) (row : ℕ) → (row ≡ target → ⊥)
    → slice_index_or (put_source sources target source) row None ≡ slice_index_or sources row None
put_other [] zero source zero apart = absurd (apart refl)
put_other [] zero source (suc row) apart = refl
put_other [] (suc target) source zero apart = refl
put_other [] (suc target) source (suc row) apart = put_other [] target source row (λ e. apart (ap suc e))
put_other (x ∷ sources) zero source zero apart = absurd (apart refl)
put_other (x ∷ sources) zero source (suc row) apart = refl
put_other (x ∷ sources) (suc target) source zero apart = refl
put_other (x ∷ sources) (suc target) source (suc row) apart = put_other sources target source row (λ e. apart (ap suc e))

pub put_is : (old new : List (Option RowId)) (target source : RowId) → IsPut old new target source → length new ≡ max
    (length old) (target.0 + 1)
    → new ≡ put_source old target.0 source
put_is old new target source put count =
    same_lists new (put_source old target.0 source) None (count ∙ sym (length_put old target.0 source)) each
  where
    each : (i : ℕ) → slice_index_or new i None ≡ slice_index_or (put_source old target.0 source) i None
    each i =
        let row : RowId = record { 0 = i } in
        ⊎_elim
        (λ (is : i ≡ target.0).
        let same : row ≡ target = ap (λ (n : ℕ). let r : RowId = record { 0 = n } in r) is in
        ap (source_in new) same ∙ (put.mapped ∙
        (sym (put_here old target.0 source) ∙ ap (λ (n : ℕ). slice_index_or (put_source old target.0 source) n
        None) (sym is))))
        (λ (apart : i ≡ target.0 → ⊥).
        put.others row (λ e. apart (ap (λ (r : RowId). r.0) e)) ∙ sym (put_other old target.0 source i apart))
        (cases_eq i target.0)
