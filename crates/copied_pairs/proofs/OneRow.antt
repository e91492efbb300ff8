-- The listed pairs of one row.
use Rattle.std.proofs.Common.{◌≡◌, ◌⊎◌, ◌<◌, ℕ, Bool, zero, suc, true, false, cond, List, [], ◌∷◌, Some, slice_get, refl, sym, subst, inl, inr, arith}
use Rattle.std.proofs.lemmas.Option.{none-some, same_Some}
use Rattle.currency_base.specs.declared.ids.RowId.{RowId}
use Rattle.currency_base.specs.declared.row.Row.{Row}
use Rattle.copy_functions.specs.Copies.{CopyFunction, source_at}
use Rattle.spec_model.specs.Compatible.{IsRowPairBefore}
use Rattle.copied_pairs.specs.declared.pairs.CopiedPair.{CopiedPair}
use Rattle.copied_pairs.specs.Copied.{Ascend}
use Rattle.copied_pairs.specs.Listing.{goes_with, pairs_with}
use Rattle.copied_pairs.proofs.RowTests.{IsPartner, partner_from_test, test_from_partner, StandsIn}

abbrev pub pair : RowId → RowId → CopiedPair
pair first second = record { first = first; second = second }

-- a pair of the row with one of these
pub record IsWith (copy : CopyFunction) (source : List Row) (first from : RowId) (rows : List RowId)
    (p : CopiedPair) : Type 0 where
  pub first_is : p.first ≡ first
  pub place : ℕ
  pub at : slice_get rows place ≡ Some p.second
  pub partner : IsPartner copy source from p.second

with_later : (copy : CopyFunction) (source : List Row) (first from row : RowId) (rows : List RowId) (p : CopiedPair)
    → IsWith copy source first from rows p
    → IsWith copy source first from (row ∷ rows) p
with_later copy source first from row rows p w = record {
  first_is = w.first_is;
  place = suc w.place;
  at =
      w.at;
  partner = w.partner;
}

tested : (b : Bool) → (b ≡ true) ⊎ (b ≡ false)
tested true = inl refl
tested false = inr refl

pub is_with : (copy : CopyFunction) (source : List Row) (first from : RowId) (rows : List RowId) (i : ℕ) (p : CopiedPair)
    → slice_get (pairs_with copy source first from rows) i ≡ Some p → IsWith copy source first from rows p
is_with copy source first from [] i p at = absurd (none-some p at)
is_with copy source first from (row ∷ rows) i p at =
    go (λ j at'. with_later copy source first from row rows p (is_with copy source first from rows j p at')) i
    (tested (goes_with source from (source_at copy row))) at
  where
    go : ((j : ℕ) → slice_get (pairs_with copy source first from rows) j ≡ Some p → IsWith copy source first from (row ∷ rows) p)
        → (i : ℕ) → (goes_with source from (source_at copy row) ≡ true) ⊎ (goes_with source from (source_at copy row) ≡ false)
        → slice_get (cond (goes_with source from (source_at copy row))
        (pair first row ∷ pairs_with copy source first from rows) (pairs_with copy source first from rows)) i ≡ Some p
        → IsWith copy source first from (row ∷ rows) p
    go more zero (inl h) at =
        let here : Some (pair first row) ≡ Some p = rw h at at in
        let same : pair first row ≡ p = same_Some (pair first row) p here in
        subst (IsWith copy source first from (row ∷ rows)) same
        (record { first_is = refl; place = 0; at = refl; partner = partner_from_test copy source from row h })
    go more (suc j) (inl h) at = more j (rw h at at)
    go more i (inr h) at = more i (rw h at at)

pub with_has : (copy : CopyFunction) (source : List Row) (first from : RowId) (rows : List RowId) (i : ℕ) (second : RowId)
    → slice_get rows i ≡ Some second → IsPartner copy source from second
    → StandsIn (pairs_with copy source first from rows) (pair first second)
with_has copy source first from [] i second at partner = absurd (none-some second at)
with_has copy source first from (row ∷ rows) zero second at partner =
    let same : row ≡ second = same_Some row second at in
    subst (λ (r : RowId). StandsIn (pairs_with copy source first from (r ∷ rows)) (pair first second)) (sym same)
    (rw (test_from_partner copy source from second partner) (0, refl))
with_has copy source first from (row ∷ rows) (suc i) second at partner =
    go (goes_with source from (source_at copy row)) (with_has copy source first from rows i second at partner)
  where
    go : (b : Bool) → StandsIn (pairs_with copy source first from rows) (pair first second)
        → StandsIn (cond b (pair first row ∷ pairs_with copy source first from rows)
        (pairs_with copy source first from rows)) (pair first second)
    go true found = (suc found.0, found.1)
    go false found = found

-- rows that ascend
abbrev pub RowsAscend : List RowId → Type 0
RowsAscend rows = (i j : ℕ) (a b : RowId) → slice_get rows i ≡ Some a → slice_get rows j ≡ Some b → i < j → a.0 < b.0

pub with_ascends : (copy : CopyFunction) (source : List Row) (first from : RowId) (rows : List RowId)
    → RowsAscend rows → Ascend (pairs_with copy source first from rows)
with_ascends copy source first from [] rows_are i j p q at_i at_j below = absurd (none-some p at_i)
with_ascends copy source first from (row ∷ rows) rows_are i j p q at_i at_j below =
    go (with_ascends copy source first from rows (λ k l a b at_k at_l order. rows_are (suc k) (suc l) a b at_k at_l
    (omega arith)))
    (tested (goes_with source from (source_at copy row))) i j at_i at_j below
  where
    go : Ascend (pairs_with copy source first from rows)
        → (goes_with source from (source_at copy row) ≡ true) ⊎ (goes_with source from (source_at copy row) ≡ false)
        → (i j : ℕ)
        → slice_get (cond (goes_with source from (source_at copy row))
        (pair first row ∷ pairs_with copy source first from rows) (pairs_with copy source first from rows)) i ≡ Some p
        → slice_get (cond (goes_with source from (source_at copy row))
        (pair first row ∷ pairs_with copy source first from rows) (pairs_with copy source first from rows)) j ≡ Some q
        → i < j → IsRowPairBefore p.first p.second q.first q.second
    go more t i zero at_i at_j below = absurd (omega arith)
    go more (inl h) zero (suc j) at_i at_j below =
        let here : Some (pair first row) ≡ Some p = rw h at at_i in
        let same : pair first row ≡ p = same_Some (pair first row) p here in
        let there : slice_get (pairs_with copy source first from rows) j ≡ Some q = rw h at at_j in
        let w = is_with copy source first from rows j q there in
        let order : row.0 < q.second.0 = rows_are 0 (suc w.place) row q.second refl w.at (omega arith) in
        subst (λ (x : CopiedPair). IsRowPairBefore x.first x.second q.first q.second) same (inr (sym w.first_is, order))
    go more (inl h) (suc i) (suc j) at_i at_j below = more i j p q (rw h at at_i) (rw h at at_j) (omega arith)
    go more (inr h) i (suc j) at_i at_j below = more i (suc j) p q (rw h at at_i) (rw h at at_j) below
