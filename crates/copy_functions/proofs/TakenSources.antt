-- A list by rows without the source row of one of them.
use Rattle.std.proofs.Common.{◌≡◌, ◌≢◌, ℕ, zero, suc, List, [], ◌∷◌, Option, Some, None, slice_set, refl, sym, ap, ◌∙◌, ⊎_elim, get_or-set_other}
use Rattle.std.specs.List.{slice_index_or}
use Rattle.std.proofs.lemmas.Bool.{cases_eq}
use Rattle.std.proofs.lemmas.Option.{none-some}
use Rattle.currency_base.specs.declared.ids.RowId.{RowId}
use Rattle.currency_base.specs.declared.row.Row.{Row}
use Rattle.copy_functions.specs.Copies.{CopyFunction, source_at, put_source, with_source, without_source, IsCopied}
use Rattle.copy_functions.proofs.PutSources.{put_other}

-- rows of one number are one row
same_row : (row target : RowId) → row.0 ≡ target.0 → row ≡ target
same_row row target is = ap (λ (n : ℕ). let r : RowId = record { 0 = n } in r) is

taken_here : (sources : List (Option RowId)) (target : ℕ) → slice_index_or (slice_set sources target None) target None ≡ None
taken_here [] zero = refl
taken_here [] (suc target) = refl
taken_here (x ∷ sources) zero = refl
taken_here (x ∷ sources) (suc target) = taken_here sources target

pub is_unmapped : (copy : CopyFunction) (target : RowId) → source_at (without_source copy target) target ≡ None
is_unmapped copy target = taken_here copy.sources target.0

pub others_mapped : (copy : CopyFunction) (target row : RowId) → row ≢ target
    → source_at (without_source copy target) row ≡ source_at copy row
others_mapped copy target row apart =
    get_or-set_other copy.sources target.0 row.0 None None (λ e. apart (same_row row target e))

-- where mapped rows are copies, they still are with one row mapped less
pub copied_less : (copy : CopyFunction) (target : RowId) (target_rows source_rows : List Row)
    → IsCopied copy target_rows source_rows → IsCopied (without_source copy target) target_rows source_rows
copied_less copy target target_rows source_rows were row source at =
    ⊎_elim
    (λ (is : row.0 ≡ target.0).
    absurd (none-some source (sym (is_unmapped copy target)
    ∙ (ap (source_at (without_source copy target)) (sym (same_row row target is)) ∙ at))))
    (λ (apart : row.0 ≡ target.0 → ⊥).
    were row source (sym (others_mapped copy target row (λ e. apart (ap (λ (r : RowId). r.0) e))) ∙ at))
    (cases_eq row.0 target.0)

-- ---- mapping and unmapping undo each other

pub unmapped_again : (copy : CopyFunction) (target source : RowId) → source_at copy target ≡ None
    → (row : RowId) → source_at (without_source (with_source copy target source) target) row ≡ source_at copy row
unmapped_again copy target source none row =
    let more = with_source copy target source in
    ⊎_elim
    (λ (is : row.0 ≡ target.0).
    ap (source_at (without_source more target)) (same_row row target is)
    ∙ (is_unmapped more target ∙ (sym none ∙ ap (source_at copy) (sym (same_row row target is)))))
    (λ (apart : row.0 ≡ target.0 → ⊥).
    others_mapped more target row (λ e. apart (ap (λ (r : RowId). r.0) e))
    ∙ put_other copy.sources target.0 source row.0 apart)
    (cases_eq row.0 target.0)

put_again : (sources : List (Option RowId)) (target : ℕ) (source : RowId) → slice_index_or sources target None ≡ Some source
    → put_source (slice_set sources target None) target source ≡ sources
put_again [] zero source at = absurd (none-some source at)
put_again [] (suc target) source at = absurd (none-some source at)
put_again (x ∷ sources) zero source at = ap (λ (o : Option RowId). o ∷ sources) (sym at)
put_again (x ∷ sources) (suc target) source at =
    ap (λ (rest : List (Option RowId)). x ∷ rest) (put_again sources target source at)

pub mapped_again : (copy : CopyFunction) (target source : RowId) → source_at copy target ≡ Some source
    → with_source (without_source copy target) target source ≡ copy
mapped_again copy target source at =
    ap (λ (sources : List (Option RowId)). let c : CopyFunction = record copy { sources = sources } in c)
    (put_again copy.sources target.0 source at)
