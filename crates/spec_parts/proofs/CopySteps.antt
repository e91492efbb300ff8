-- Mapped rows of the part, one after another.
use Rattle.std.proofs.Common.{◌≡◌, ◌≢◌, ◌⊎◌, ◌+◌, ◌<◌, ◌≤◌, ◌∙◌, ℕ, List, [], Some, None, length, slice_get, sym, ap, inl, inr, arith}
use Rattle.std.proofs.lemmas.Bool.{cases_eq}
use Rattle.std.proofs.lemmas.Option.{none-some, same_Some, slice_get_within}
use Rattle.currency_base.specs.declared.ids.RowId.{RowId}
use Rattle.currency_base.specs.declared.row.Row.{Row}
use Rattle.copy_functions.specs.Copies.{CopyFunction, source_at, Maps, IsCopied}
use Rattle.part_laws.specs.Parts.{IsCopyPart, RowsAscend}
use Rattle.spec_parts.specs.Steps.{IsCopySoFar}
use Rattle.spec_parts.proofs.Searched.{one_row, same_number}

-- no row is mapped yet
pub copy_none : (copy new : CopyFunction) (targets sources : List RowId) → new ≡ record copy { sources = [] }
    → IsCopySoFar copy targets sources 0 new
copy_none copy new targets sources is = record {
  name = ap (λ (x : CopyFunction). x.name) is;
  target = ap (λ (x : CopyFunction). x.target) is;
  source = ap (λ (x : CopyFunction). x.source) is;
  places = ap (λ (x : CopyFunction). x.places) is;
  mapped_are = λ row from mapped. absurd (none-some from (sym (ap (λ (x : CopyFunction). source_at x row) is) ∙ mapped));
  mapped_all = λ row from old old_from below at at_from mapped. absurd (omega (arith, below));
}

pub copied_none : (copy new : CopyFunction) (target_rows source_rows : List Row) → new ≡ record copy { sources = [] }
    → IsCopied new target_rows source_rows
copied_none copy new target_rows source_rows is target source mapped =
    absurd (none-some source (sym (ap (λ (x : CopyFunction). source_at x target) is) ∙ mapped))

module _ (copy : CopyFunction) (targets sources : List RowId) (k target : RowId) (at : slice_get targets k.0 ≡ Some target) where
  -- the next row is not mapped
  pub copy_pass : (new : CopyFunction) → IsCopySoFar copy targets sources k.0 new → source_at copy target ≡ None
      → IsCopySoFar copy targets sources (k.0 + 1) new
  copy_pass new are none = record {
    name = are.name;
    target = are.target;
    source = are.source;
    places = are.places;
    mapped_are = are.mapped_are;
    mapped_all = all;
  }
    where
      all : (row from old old_from : RowId) → row.0 < k.0 + 1 → slice_get targets row.0 ≡ Some old
          → slice_get sources from.0 ≡ Some old_from
          → source_at copy old ≡ Some old_from → source_at new row ≡ Some from
      all row from old old_from below at_row at_from mapped = by (cases_eq row.0 k.0)
        where
          by : (row.0 ≡ k.0) ⊎ (row.0 ≢ k.0) → source_at new row ≡ Some from
          by (inl here) =
              let same : target ≡ old = same_Some target old (sym at ∙ ap (slice_get targets) (sym here) ∙ at_row) in
              absurd (none-some old_from (sym none ∙ ap (source_at copy) same ∙ mapped))
          by (inr apart) = are.mapped_all row from old old_from (omega (arith, below, apart)) at_row at_from mapped

  -- the next row is mapped
  pub copy_map : (was new : CopyFunction) (source from : RowId) → RowsAscend sources → IsCopySoFar copy targets sources k.0 was
      → source_at copy target ≡ Some from → slice_get sources source.0 ≡ Some from → Maps was new k source
      → IsCopySoFar copy targets sources (k.0 + 1) new
  copy_map was new source from ascend are maps_to at_source maps = record {
    name = maps.name ∙ are.name;
    target = maps.target_relation ∙ are.target;
    source = maps.source_relation ∙ are.source;
    places = maps.places ∙ are.places;
    mapped_are = some;
    mapped_all = all;
  }
    where
      apart_from : (row : RowId) → row.0 ≢ k.0 → row ≢ k
      apart_from row apart e = apart (ap (λ (x : RowId). x.0) e)

      some : (row to : RowId) → source_at new row ≡ Some to → (old old_from : RowId) × (slice_get targets row.0 ≡ Some old)
          × (slice_get sources to.0 ≡ Some old_from) × (source_at copy old ≡ Some old_from)
      some row to mapped = by (cases_eq row.0 k.0)
        where
          by : (row.0 ≡ k.0) ⊎ (row.0 ≢ k.0) → (old old_from : RowId) × (slice_get targets row.0 ≡ Some old)
              × (slice_get sources to.0 ≡ Some old_from) × (source_at copy old ≡ Some old_from)
          by (inl here) =
              let is_k : row ≡ k = same_number row k here in
              let same : source ≡ to = same_Some source to (sym maps.mapped ∙ ap (source_at new) (sym is_k) ∙ mapped) in (
                target,
                from,
                ap (slice_get targets) here ∙ at,
                ap (λ (x : RowId). slice_get sources x.0) (sym same)
                    ∙ at_source,
                maps_to,
              )
          by (inr apart) = are.mapped_are row to (sym (maps.others row (apart_from row apart)) ∙ mapped)

      all : (row to old old_from : RowId) → row.0 < k.0 + 1 → slice_get targets row.0 ≡ Some old
          → slice_get sources to.0 ≡ Some old_from
          → source_at copy old ≡ Some old_from → source_at new row ≡ Some to
      all row to old old_from below at_row at_to mapped = by (cases_eq row.0 k.0)
        where
          by : (row.0 ≡ k.0) ⊎ (row.0 ≢ k.0) → source_at new row ≡ Some to
          by (inl here) =
              let is_k : row ≡ k = same_number row k here in
              let same : target ≡ old = same_Some target old (sym at ∙ ap (slice_get targets) (sym here) ∙ at_row) in
              let one : from ≡ old_from = same_Some from old_from (sym maps_to ∙ ap (source_at copy) same ∙ mapped) in
              let place : source ≡ to = same_number source to
              (one_row sources source.0 to.0 old_from ascend (at_source ∙ ap Some one) at_to) in
              ap (source_at new) is_k ∙ maps.mapped ∙ ap Some place
          by (inr apart) = maps.others row (apart_from row apart) ∙ are.mapped_all row to old old_from
              (omega (arith, below, apart)) at_row
              at_to mapped

-- all rows are done
pub copy_all : (copy new : CopyFunction) (targets sources : List RowId) (k : ℕ) → length targets ≤ k
    → IsCopySoFar copy targets sources k new
    → IsCopyPart copy targets sources new
copy_all copy new targets sources k end are = record {
  name = are.name;
  target = are.target;
  source = are.source;
  places = are.places;
  mapped_are = are.mapped_are;
  mapped_all = λ row from old old_from at at_from mapped.
      are.mapped_all row from old old_from (omega (arith, slice_get_within targets row.0 old at, end)) at at_from mapped;
}
