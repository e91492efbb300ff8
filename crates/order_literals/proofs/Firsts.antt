-- A row that is its own name is found among the rows that name values, whose ids rise.
use Rattle.std.proofs.Common.{◌≡◌, ◌⊎◌, inl, inr, ◌<◌, ◌≤◌, ℕ, true, false, nat_lt, List, [], Some, length, map, option_map, get_or, slice_get, slice_index_or, sym, ap, subst, arith}
use Rattle.std.specs.List.Sorted.{IsPartitionedBy, IsPartitionPoint}
use Rattle.std.proofs.lemmas.Bool.{cases_lt, ltb-true, ltb-false, lt-ltb}
use Rattle.std.proofs.lemmas.Option.{get_or_from_slice_get, slice_get_within, slice_get-map, slice_get-get_or}
use Rattle.currency_base.specs.declared.ids.RowId.{RowId}
use Rattle.value_names.specs.Names.{firsts_of}
use Rattle.value_names.proofs.NameFacts.{is_first, firsts_ascend}
use Rattle.order_literals.specs.Held.{IsAmong}

-- a row that is its own name stands among the rows that name values
pub among_firsts : (names : List RowId) (row : RowId) → slice_get names row.0 ≡ Some row → IsAmong (firsts_of names) row
among_firsts names row at =
    let found = is_first names row at in
    record {
      place = found.0;
      at = found.1;
      rise = λ i j d order within. firsts_ascend names i j (get_or (firsts_of names) i d) (get_or (firsts_of names) j d)
          (slice_get-get_or (firsts_of names) i d (omega arith)) (slice_get-get_or (firsts_of names) j d within) order;
    }

-- where ids rise, those below an id come first
pub lesser_first : (rows : List RowId) (row : RowId) → IsAmong rows row → IsPartitionedBy (λ other. nat_lt other.0 row.0) rows
lesser_first rows row among i j d order within passes = by (cases_lt i j)
  where
    by : (i < j) ⊎ (j ≤ i) → nat_lt (get_or rows i d).0 row.0 ≡ true
    by (inl before) = lt-ltb (get_or rows i d).0 row.0
        (omega (arith, among.rise i j d before within, ltb-true (get_or rows j d).0 row.0 passes))
    by (inr same) =
        let one : i ≡ j = omega arith in
        rw one passes

-- and the row itself is the next
pub next_is : (rows : List RowId) (row : RowId) (i : ℕ) → IsAmong rows row → i ≤ length rows
    → IsPartitionPoint (λ (other : RowId). nat_lt other.0 row.0 ≡ true)
    (λ (other : RowId). nat_lt other.0 row.0 ≡ false) rows i → slice_get rows i ≡ Some row
next_is rows row i among within point = by (cases_lt among.place i) (cases_lt i among.place)
  where
    here : get_or rows among.place row ≡ row
    here = get_or_from_slice_get rows among.place row row among.at

    inside : among.place < length rows
    inside = slice_get_within rows among.place row among.at

    by : (among.place < i) ⊎ (i ≤ among.place) → (i < among.place) ⊎ (among.place ≤ i) → slice_get rows i ≡ Some row
    by (inl early) other =
        let less = ltb-true (get_or rows among.place row).0 row.0 (point.0 among.place row (omega arith) early) in
        let number = ap (λ (r : RowId). r.0) here in
        absurd (omega arith)
    by (inr late) (inl after) =
        let inside_place : among.place < length rows = inside in
        let least = ltb-false (get_or rows i row).0 row.0 (point.1 i row (omega arith) (omega arith)) in
        let less = among.rise i among.place row after inside in
        let number = ap (λ (r : RowId). r.0) here in
        absurd (omega arith)
    by (inr late) (inr same) =
        let one : i ≡ among.place = omega arith in
        subst (λ k. slice_get rows k ≡ Some row) (sym one) among.at

-- ---- the rows that name values of an attribute

-- they are kept for each attribute
pub firsts_at : (names lists : List (List RowId)) (attr : ℕ) (rows : List RowId) → lists ≡ map firsts_of names
    → attr < length names
    → slice_get lists attr ≡ Some rows → rows ≡ firsts_of (slice_index_or names attr [])
firsts_at names lists attr rows are within at =
    let mapped = slice_get-map firsts_of names attr in
    let read = slice_get-get_or names attr [] within in
    let all = ap (λ (l : List (List RowId)). slice_get l attr) are in
    let these : Some rows ≡ option_map firsts_of (Some (get_or names attr [])) = cc in
    cc
