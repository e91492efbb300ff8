-- Which row each row is mapped to where some of the mapped rows are marked.
use Rattle.std.proofs.Common.{◌≡◌, ◌∙◌, ◌+◌, ◌<◌, ◌≤◌, ℕ, zero, suc, Bool, true, false, if◌then◌else◌, List, [], ◌∷◌, Option, Some, None, slice_index_or, refl, sym, ap, subst, ⊎_elim, arith}
use Rattle.std.proofs.lemmas.Bool.{cases_eq, cases_lt}
use Rattle.std.proofs.lemmas.Option.{none-some}
use Rattle.currency_base.specs.declared.ids.RowId.{RowId}
use Rattle.copy_functions.specs.Copies.{CopyFunction, source_at, put_source}
use Rattle.kept_items.specs.Marked.{is_marked}
use Rattle.kept_items.specs.Steps.{with_row, marked_rows, mapped_count}

-- ---- a list by rows with one source row more

put_here : (sources : List (Option RowId)) (target : ℕ) (source : RowId)
    → slice_index_or (put_source sources target source) target None ≡ Some source
put_here [] zero source = refl
put_here [] (suc target) source = put_here [] target source
put_here (x ∷ sources) zero source = refl
put_here (x ∷ sources) (suc target) source = put_here sources target source

put_other : (sources : List (Option RowId)) (target : ℕ) (source : RowId) (row : ℕ) → (row ≡ target → ⊥)
    → slice_index_or (put_source sources target source) row None ≡ slice_index_or sources row None
put_other [] zero source zero apart = absurd (apart refl)
put_other [] zero source (suc row) apart = refl
put_other [] (suc target) source zero apart = refl
put_other [] (suc target) source (suc row) apart = put_other [] target source row (λ e. apart (ap suc e))
put_other (x ∷ sources) zero source zero apart = absurd (apart refl)
put_other (x ∷ sources) zero source (suc row) apart = refl
put_other (x ∷ sources) (suc target) source zero apart = refl
put_other (x ∷ sources) (suc target) source (suc row) apart = put_other sources target source row (λ e. apart (ap suc e))

-- ---- one row more

abbrev row_id : ℕ → RowId
row_id n = record { 0 = n }

-- a row that is not mapped yet
row_here : (o : Option RowId) (is : Bool) (row : RowId) (new : CopyFunction) → source_at new row ≡ None
    → source_at (with_row o is row new) row ≡ (if is then o else None)
row_here None true row new none = none
row_here None false row new none = none
row_here (Some source) true row new none = put_here new.sources row.0 source
row_here (Some source) false row new none = none

row_other : (o : Option RowId) (is : Bool) (row other : RowId) (new : CopyFunction) → (other.0 ≡ row.0 → ⊥)
    → source_at (with_row o is row new) other ≡ source_at new other
row_other None is row other new apart = refl
row_other (Some source) true row other new apart = put_other new.sources row.0 source other.0 apart
row_other (Some source) false row other new apart = refl

-- ---- the first rows

pub none_beyond : (marks : List Bool) (at : ℕ) (copy : CopyFunction) (rows : ℕ) (row : RowId) → rows ≤ row.0
    → source_at (marked_rows marks at copy rows) row ≡ None
none_beyond marks at copy zero row beyond = refl
none_beyond marks at copy (suc rows) row beyond =
    row_other (source_at copy (record { 0 = rows })) (is_marked marks (at + mapped_count copy rows)) (record { 0 = rows }) row
    (marked_rows marks at copy rows) (λ same. omega (arith, same, beyond))
    ∙ none_beyond marks at copy rows row (omega (arith, beyond))

pub source_is : (marks : List Bool) (at : ℕ) (copy : CopyFunction) (rows : ℕ) (row : RowId) → row.0 < rows
    → source_at (marked_rows marks at copy rows) row
    ≡ (if is_marked marks (at + mapped_count copy row.0) then source_at copy row else None)
source_is marks at copy zero row below = absurd (omega (arith, below))
source_is marks at copy (suc rows) row below = ⊎_elim
    (λ (same : row.0 ≡ rows).
    subst
    (λ n. source_at (with_row (source_at copy (row_id n)) (is_marked marks (at + mapped_count copy n)) (row_id n)
    (marked_rows marks at copy n)) row
    ≡ (if is_marked marks (at + mapped_count copy row.0) then source_at copy row else None))
    same
    (row_here (source_at copy row) (is_marked marks (at + mapped_count copy row.0)) row (marked_rows marks at copy row.0)
    (none_beyond marks at copy row.0 row (omega arith))))
    (λ (apart : row.0 ≡ rows → ⊥).
    row_other (source_at copy (row_id rows)) (is_marked marks (at + mapped_count copy rows)) (row_id rows) row
    (marked_rows marks at copy rows) apart
    ∙ source_is marks at copy rows row (omega arith))
    (cases_eq row.0 rows)

-- ---- what is as in the whole

-- all but the mapped rows are
pub record IsOf (copy new : CopyFunction) : Type 0 where
  pub name : new.name ≡ copy.name
  pub target : new.target ≡ copy.target
  pub source : new.source ≡ copy.source
  pub places : new.places ≡ copy.places

row_of : (copy : CopyFunction) (o : Option RowId) (is : Bool) (row : RowId) (new : CopyFunction) → IsOf copy new
    → IsOf copy (with_row o is row new)
row_of copy None is row new of = of
row_of copy (Some source) true row new of = record { name = of.name; target = of.target; source = of.source; places = of.places }
row_of copy (Some source) false row new of = of

pub rows_of_copy : (marks : List Bool) (at : ℕ) (copy : CopyFunction) (rows : ℕ) → IsOf copy (marked_rows marks at copy rows)
rows_of_copy marks at copy zero = record { name = refl; target = refl; source = refl; places = refl }
rows_of_copy marks at copy (suc rows) =
    row_of copy (source_at copy (row_id rows)) (is_marked marks (at + mapped_count copy rows)) (row_id rows)
    (marked_rows marks at copy rows) (rows_of_copy marks at copy rows)

-- a row that is mapped is mapped so in the whole
some_if : (test : Bool) (o : Option RowId) (x : RowId) → (if test then o else None) ≡ Some x → o ≡ Some x
some_if true o x e = e
some_if false o x e = absurd (none-some x e)

pub mapped_so : (marks : List Bool) (at : ℕ) (copy : CopyFunction) (rows : ℕ) (row source : RowId)
    → source_at (marked_rows marks at copy rows) row ≡ Some source → source_at copy row ≡ Some source
mapped_so marks at copy rows row source maps = ⊎_elim
    (λ (below : row.0 < rows).
    some_if (is_marked marks (at + mapped_count copy row.0)) (source_at copy row) source
    (sym (source_is marks at copy rows row below) ∙ maps))
    (λ (beyond : rows ≤ row.0). absurd (none-some source (sym (none_beyond marks at copy rows row beyond) ∙ maps)))
    (cases_lt row.0 rows)
