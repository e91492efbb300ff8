-- The rows of an entity, the pairs of rows of one entity and the rows that name values: what is in them, and that they ascend.
use Rattle.std.proofs.Common.{◌≡◌, ◌⊎◌, ◌==◌, ◌+◌, ◌<◌, ℕ, zero, suc, true, List, [], ◌∷◌, Some, slice_get, refl, sym, ap, ◌∙◌, subst, inl, inr, arith}
use Rattle.std.specs.List.{range_with_len}
use Rattle.std.proofs.lemmas.Bool.{eqb-true, eq-eqb}
use Rattle.std.proofs.lemmas.Option.{same_Some, none-some}
use Rattle.currency_base.specs.declared.ids.RowId.{RowId}
use Rattle.entity_lists.specs.Lists.{rows_from}
use Rattle.pair_numbers.specs.Pairs.{with_each, pairs_from}
use Rattle.pair_numbers.specs.declared.pair.RowPair.{RowPair}
use Rattle.value_names.specs.Names.{row_ids, firsts_from}
use Rattle.order_literals.proofs.Items.{IsIn, in_left, in_right, in_either, in_map, from_map, in_kept, kept_first, kept_later, in_range, range_in}
use Rattle.order_literals.proofs.Ascents.{Ascends, Precedes, ascends_append, ascends_kept, ascends_map, range_ascends}

abbrev pub row_at : ℕ → RowId
row_at n = record { 0 = n }

pub row_is : (a b : RowId) → a.0 ≡ b.0 → a ≡ b
row_is a b e = ap row_at e

-- a row has a lesser number
abbrev pub IsLess : RowId → RowId → Type 0
IsLess a b = a.0 < b.0

-- ---- so many rows

pub in_row_ids : (count : ℕ) (row : RowId) → IsIn (row_ids count) row → row.0 < count
in_row_ids count row at =
    let from = from_map row_at (range_with_len 0 count) row at in
    let high = (in_range 0 count from.0 from.1).1 in
    omega (arith, ap (λ (r : RowId). r.0) from.2)

pub row_ids_in : (count : ℕ) (row : RowId) → row.0 < count → IsIn (row_ids count) row
row_ids_in count row within = in_map row_at (range_with_len 0 count) row.0 (range_in 0 count row.0 (omega arith) (omega arith))

pub row_ids_ascend : (count : ℕ) → Ascends IsLess (row_ids count)
row_ids_ascend count = ascends_map IsLess (λ x y. x < y) row_at (λ x y below. below) (range_with_len 0 count)
    (range_ascends 0 count)

-- ---- the rows of an entity

-- the row of this number is one of these, of which the first has that number, and is of the entity
pub record IsRowFrom (first : ℕ) (entities : List ℕ) (ent number : ℕ) : Type 0 where
  pub place : ℕ
  pub is : number ≡ first + place
  pub of : slice_get entities place ≡ Some ent

one_on : (first e : ℕ) (entities : List ℕ) (ent number : ℕ) → IsRowFrom (first + 1) entities ent number
    → IsRowFrom first (e ∷ entities) ent number
one_on first e entities ent number from = record { place = suc from.place; is = omega (arith, from.is); of = from.of }

pub in_rows_from : (first : ℕ) (entities : List ℕ) (ent : ℕ) (row : RowId) → IsIn (rows_from first entities ent) row
    → IsRowFrom first entities ent row.0
in_rows_from first [] ent row at = absurd at
in_rows_from first (e ∷ entities) ent row at =
    by (in_rows_from (first + 1) entities ent row)
    (in_kept (e == ent) (row_at first) (rows_from (first + 1) entities ent) row at)
  where
    by : (IsIn (rows_from (first + 1) entities ent) row → IsRowFrom (first + 1) entities ent row.0)
        → ((e == ent ≡ true) × (row_at first ≡ row)) ⊎ IsIn (rows_from (first + 1) entities ent) row
        → IsRowFrom first (e ∷ entities) ent row.0
    by more (inl here) =
        record { place = 0; is = omega (arith, ap (λ (r : RowId). r.0) here.1); of = ap Some (eqb-true e ent here.0) }
    by more (inr there) = one_on first e entities ent row.0 (more there)

pub rows_from_in : (first : ℕ) (entities : List ℕ) (ent : ℕ) (row : RowId) (place : ℕ) → row.0 ≡ first + place
    → slice_get entities place ≡ Some ent → IsIn (rows_from first entities ent) row
rows_from_in first [] ent row place is of = absurd (none-some ent of)
rows_from_in first (e ∷ entities) ent row zero is of =
    let same : row_at first ≡ row = row_is (row_at first) row (omega arith) in
    subst (IsIn (rows_from first (e ∷ entities) ent)) same
    (kept_first (e == ent) (row_at first) (rows_from (first + 1) entities ent) (eq-eqb e ent (same_Some e ent of)))
rows_from_in first (e ∷ entities) ent row (suc place) is of =
    kept_later (e == ent) (row_at first) (rows_from (first + 1) entities ent) row
    (rows_from_in (first + 1) entities ent row place (omega arith) of)

pub rows_from_ascend : (first : ℕ) (entities : List ℕ) (ent : ℕ) → Ascends IsLess (rows_from first entities ent)
rows_from_ascend first [] ent = tt
rows_from_ascend first (e ∷ entities) ent =
    ascends_kept IsLess (e == ent) (row_at first) (rows_from (first + 1) entities ent)
    (λ e row at. (let from = in_rows_from (first + 1) entities ent row at in omega (arith, from.is)))
    (rows_from_ascend (first + 1) entities ent)

-- ---- the rows that name values

-- the row names itself, at its number
pub record IsFirstFrom (first : ℕ) (names : List RowId) (row : RowId) : Type 0 where
  pub place : ℕ
  pub is : row.0 ≡ first + place
  pub named : slice_get names place ≡ Some row

pub in_firsts_from : (first : ℕ) (names : List RowId) (row : RowId) → IsIn (firsts_from first names) row
    → IsFirstFrom first names row
in_firsts_from first [] row at = absurd at
in_firsts_from first (name ∷ names) row at =
    by (in_firsts_from (first + 1) names row) (in_kept (name.0 == first) name (firsts_from (first + 1) names) row at)
  where
    by : (IsIn (firsts_from (first + 1) names) row → IsFirstFrom (first + 1) names row)
        → ((name.0 == first ≡ true) × (name ≡ row)) ⊎ IsIn (firsts_from (first + 1) names) row
        → IsFirstFrom first (name ∷ names) row
    by more (inl here) =
        let is = eqb-true name.0 first here.0 in
        record { place = 0; is = omega (arith, ap (λ (r : RowId). r.0) here.1); named = ap Some here.1 }
    by more (inr there) =
        let from = more there in
        record { place = suc from.place; is = omega (arith, from.is); named = from.named }

pub firsts_from_in : (first : ℕ) (names : List RowId) (row : RowId) (place : ℕ) → row.0 ≡ first + place
    → slice_get names place ≡ Some row → IsIn (firsts_from first names) row
firsts_from_in first [] row place is named = absurd (none-some row named)
firsts_from_in first (name ∷ names) row zero is named =
    let same : name ≡ row = same_Some name row named in
    let number : name.0 ≡ first = omega (arith, ap (λ (r : RowId). r.0) same) in
    subst (IsIn (firsts_from first (name ∷ names))) same
    (kept_first (name.0 == first) name (firsts_from (first + 1) names) (eq-eqb name.0 first number))
firsts_from_in first (name ∷ names) row (suc place) is named =
    kept_later (name.0 == first) name (firsts_from (first + 1) names) row
    (firsts_from_in (first + 1) names row place (omega arith) named)

pub firsts_from_ascend : (first : ℕ) (names : List RowId) → Ascends IsLess (firsts_from first names)
firsts_from_ascend first [] = tt
firsts_from_ascend first (name ∷ names) =
    ascends_kept IsLess (name.0 == first) name (firsts_from (first + 1) names)
    (λ e row at.
    let is = eqb-true name.0 first e in
    let from = in_firsts_from (first + 1) names row at in
    omega (arith, is, from.is))
    (firsts_from_ascend (first + 1) names)

-- ---- pairs

abbrev pub pair_at : RowId → RowId → RowPair
pair_at earlier later = record { earlier = earlier; later = later }

-- the pair is of two of these rows, of which the first has this number, and they are of one entity, the lesser first
pub record IsPairFrom (first : ℕ) (entities : List ℕ) (pair : RowPair) : Type 0 where
  pub ent : ℕ
  pub earlier_of : IsRowFrom first entities ent pair.earlier.0
  pub later_of : IsRowFrom first entities ent pair.later.0
  pub below : IsLess pair.earlier pair.later

pub in_pairs_from : (first : ℕ) (entities : List ℕ) (pair : RowPair) → IsIn (pairs_from first entities) pair
    → IsPairFrom first entities pair
in_pairs_from first [] pair at = absurd at
in_pairs_from first (e ∷ entities) pair at =
    by (in_pairs_from (first + 1) entities pair)
    (in_either (with_each (row_at first) (rows_from (first + 1) entities e)) (pairs_from (first + 1) entities) pair at)
  where
    by : (IsIn (pairs_from (first + 1) entities) pair → IsPairFrom (first + 1) entities pair)
        → IsIn (with_each (row_at first) (rows_from (first + 1) entities e)) pair ⊎ IsIn (pairs_from (first + 1) entities) pair
        → IsPairFrom first (e ∷ entities) pair
    by more (inl here) =
        let with = from_map (pair_at (row_at first)) (rows_from (first + 1) entities e) pair here in
        let from = in_rows_from (first + 1) entities e with.0 with.1 in
        subst (IsPairFrom first (e ∷ entities)) with.2 (record {
          ent = e;
          earlier_of = record { place = 0; is = omega arith; of = refl };
          later_of = one_on first e entities e (with.0).0 from;
          below = omega (arith, from.is);
        })
    by more (inr there) =
        let from = more there in
        record {
          ent = from.ent;
          earlier_of = one_on first e entities from.ent pair.earlier.0 from.earlier_of;
          later_of = one_on first e entities from.ent pair.later.0 from.later_of;
          below = from.below;
        }

pub pairs_from_in : (first : ℕ) (entities : List ℕ) (ent : ℕ) (earlier later : RowId) (low high : ℕ)
    → earlier.0 ≡ first + low → later.0 ≡ first + high → low < high → slice_get entities low ≡ Some ent
    → slice_get entities high ≡ Some ent → IsIn (pairs_from first entities) (pair_at earlier later)
pairs_from_in first [] ent earlier later low high is is' below of of' = absurd (none-some ent of)
pairs_from_in first (e ∷ entities) ent earlier later zero zero is is' below of of' = absurd (omega arith)
pairs_from_in first (e ∷ entities) ent earlier later (suc low) zero is is' below of of' = absurd (omega arith)
pairs_from_in first (e ∷ entities) ent earlier later zero (suc high) is is' below of of' =
    let same : row_at first ≡ earlier = row_is (row_at first) earlier (omega arith) in
    let its : ent ≡ e = sym (same_Some e ent of) in
    in_left (with_each (row_at first) (rows_from (first + 1) entities e)) (pairs_from (first + 1) entities)
    (pair_at earlier later)
    (subst (λ r. IsIn (with_each (row_at first) (rows_from (first + 1) entities e)) (pair_at r later)) same
    (in_map (pair_at (row_at first)) (rows_from (first + 1) entities e) later
    (rows_from_in (first + 1) entities e later high (omega arith) (of' ∙ ap Some its))))
pairs_from_in first (e ∷ entities) ent earlier later (suc low) (suc high) is is' below of of' =
    in_right (with_each (row_at first) (rows_from (first + 1) entities e)) (pairs_from (first + 1) entities)
    (pair_at earlier later)
    (pairs_from_in (first + 1) entities ent earlier later low high (omega arith) (omega arith) (omega arith) of of')

-- by the first row, and then by the second
abbrev pub IsPairBelow : RowPair → RowPair → Type 0
IsPairBelow p q = Precedes (p.earlier.0 ∷ p.later.0 ∷ []) (q.earlier.0 ∷ q.later.0 ∷ [])

pub pairs_from_ascend : (first : ℕ) (entities : List ℕ) → Ascends IsPairBelow (pairs_from first entities)
pairs_from_ascend first [] = tt
pairs_from_ascend first (e ∷ entities) =
    ascends_append IsPairBelow (with_each (row_at first) (rows_from (first + 1) entities e)) (pairs_from (first + 1) entities)
    (ascends_map IsPairBelow IsLess (pair_at (row_at first)) (λ a b below. inr (refl, inl below))
    (rows_from (first + 1) entities e)
    (rows_from_ascend (first + 1) entities e))
    (pairs_from_ascend (first + 1) entities)
    (λ p q at later.
    let with = from_map (pair_at (row_at first)) (rows_from (first + 1) entities e) p at in
    let from = in_pairs_from (first + 1) entities q later in
    let low : first < q.earlier.0 = omega (arith, from.earlier_of.is) in
    subst (λ r. IsPairBelow r q) with.2 (inl low))
