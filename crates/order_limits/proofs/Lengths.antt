-- How many pairs of rows, rows and values are numbered of a relation for one attribute.
use Rattle.std.proofs.Common.{◌≡◌, ◌==◌, ◌≤◌, ◌+◌, ◌∙◌, ℕ, zero, suc, Bool, true, false, cond, List, [], ◌∷◌, length, map, slice_index_or, refl, sym, arith}
use Rattle.std.proofs.lemmas.List.{length-append, length-map}
use Rattle.std.proofs.lemmas.List.FromFn.{length-map-range_with_len}
use Rattle.std.proofs.lemmas.List.Sums.{sum_by-cons}
use Rattle.currency_base.specs.declared.ids.RowId.{RowId}
use Rattle.currency_base.specs.declared.row.Row.{Row}
use Rattle.entity_lists.specs.Lists.{entities_of, rows_from}
use Rattle.pair_numbers.specs.Pairs.{with_each, pairs_from}
use Rattle.pair_numbers.specs.declared.pair.RowPair.{RowPair}
use Rattle.spec_limits.specs.Limits.{entity_pairs, rows_of}
use Rattle.value_names.specs.Names.{row_ids, name_of, names_of, firsts_from}

abbrev row_at : ℕ → RowId
row_at n = record { 0 = n }

-- the list of an entity's rows is as long as its rows are many, whatever number the first row has
rows_counted : (first : ℕ) (rows : List Row) (ent : ℕ) → length (rows_from first (entities_of rows) ent) ≡ rows_of ent rows
rows_counted first [] ent = refl
rows_counted first (row ∷ rows) ent =
    go (row.entity.0 == ent) (rows_counted (first + 1) rows ent)
    ∙ sym (sum_by-cons (λ (q : Row). cond (q.entity.0 == ent) 1 0) row rows)
  where
    rest : List RowId
    rest = rows_from (first + 1) (entities_of rows) ent

    go : (b : Bool) → length rest ≡ rows_of ent rows → length (cond b (row_at first ∷ rest) rest) ≡ cond b 1 0 + rows_of ent rows
    go true same = omega (arith, same)
    go false same = omega (arith, same)

pub pairs_counted : (first : ℕ) (rows : List Row) → length (pairs_from first (entities_of rows)) ≡ entity_pairs rows
pairs_counted first [] = refl
pairs_counted first (row ∷ rows) =
    let laters = rows_from (first + 1) (entities_of rows) row.entity.0 in
    omega (
      arith,
      length-append (with_each (row_at first) laters) (pairs_from (first + 1) (entities_of rows)),
      length-map laters (λ (later : RowId). let p : RowPair = record { earlier = row_at first; later = later } in p),
      rows_counted (first + 1) rows row.entity.0,
      pairs_counted (first + 1) rows,
    )

-- no more rows name values than have names
pub firsts_few : (first : ℕ) (names : List RowId) → length (firsts_from first names) ≤ length names
firsts_few first [] = omega arith
firsts_few first (name ∷ names) = go (name.0 == first) (firsts_few (first + 1) names)
  where
    rest : List RowId
    rest = firsts_from (first + 1) names

    go : (b : Bool) → length rest ≤ length names → length (cond b (name ∷ rest) rest) ≤ length (name ∷ names)
    go true few = omega (arith, few)
    go false few = omega (arith, few)

pub row_ids_counted : (count : ℕ) → length (row_ids count) ≡ count
row_ids_counted count = length-map-range_with_len row_at 0 count

-- each row has a name
pub names_counted : (rows : List Row) (attr : ℕ) → length (names_of rows attr) ≡ length rows
names_counted rows attr = length-map (row_ids (length rows)) (name_of rows attr) ∙ row_ids_counted (length rows)

-- of lists of one length, the one at a place is no longer; where none stands, the empty list serves
pub read_few : {X : Type 0} (f : ℕ → List X) (m : ℕ) → ((n : ℕ) → length (f n) ≡ m) → (ns : List ℕ) (i : ℕ)
    → length (slice_index_or (map f ns) i []) ≤ m
read_few f m each [] i = omega arith
read_few f m each (n ∷ ns) zero = omega (arith, each n)
read_few f m each (n ∷ ns) (suc i) = read_few f m each ns i
