-- The listed pairs are exactly the copied pairs, in their order.
use Rattle.std.proofs.Common.{◌≡◌, ◌⊎◌, ◌+◌, ◌<◌, ◌≤◌, ℕ, zero, suc, List, [], ◌∷◌, ◌++◌, Option, Some, None, Contains, length, slice_get, drop, get_or, refl, sym, ap, ◌∙◌, subst, inl, inr, arith, append_assoc}
use Rattle.std.proofs.lemmas.Bool.{cases_lt}
use Rattle.std.proofs.lemmas.List.{drop_more, drop_all, append-nil}
use Rattle.std.proofs.lemmas.Option.{none-some, same_Some, slice_get_within, slice_get-get_or, get_or_from_slice_get}
use Rattle.currency_base.specs.Lists.{OnlyOnce}
use Rattle.currency_base.specs.declared.ids.RowId.{RowId}
use Rattle.currency_base.specs.declared.row.Row.{Row}
use Rattle.partial_orders.specs.Pairs.{entity_of}
use Rattle.copy_functions.specs.Copies.{CopyFunction, source_at}
use Rattle.spec_model.specs.Compatible.{AreCopiedTogether, IsRowPairBefore}
use Rattle.entity_lists.specs.Lists.{entities_of, rows_of}
use Rattle.entity_lists.proofs.Facts.{member_of, found_in, rows_ascend}
use Rattle.copied_pairs.specs.declared.pairs.CopiedPair.{CopiedPair}
use Rattle.copied_pairs.specs.Copied.{IsCopiedPair, AreCopiedPairs, Ascend}
use Rattle.copied_pairs.specs.Listing.{pairs_with, pairs_if, pairs_from, pairs_of}
use Rattle.copied_pairs.proofs.RowTests.{IsPartner, StandsIn, IsBehind, joined_cases, in_front, in_rest}
use Rattle.copied_pairs.proofs.OneRow.{pair, is_with, IsWith, with_has, with_ascends}

abbrev pub row_at : ℕ → RowId
row_at number = record { 0 = number }

-- a pair of a row from that number on
pub record IsFrom (copy : CopyFunction) (source : List Row) (entities : List ℕ) (number : ℕ) (rest : List ℕ)
    (p : CopiedPair) : Type 0 where
  pub place : ℕ
  pub numbered : p.first.0 ≡ number + place
  pub ent : ℕ
  pub of_entity : slice_get rest place ≡ Some ent
  pub from : RowId
  pub mapped : source_at copy p.first ≡ Some from
  pub second_place : ℕ
  pub second_at : slice_get (rows_of entities ent) second_place ≡ Some p.second
  pub partner : IsPartner copy source from p.second

from_later : (copy : CopyFunction) (source : List Row) (entities : List ℕ) (number e : ℕ) (rest : List ℕ) (p : CopiedPair)
    → IsFrom copy source entities (number + 1) rest p → IsFrom copy source entities number (e ∷ rest) p
from_later copy source entities number e rest p f = record {
  place = suc f.place;
  numbered = omega (arith, f.numbered);
  ent = f.ent;
  of_entity = f.of_entity;
  from = f.from;
  mapped = f.mapped;
  second_place = f.second_place;
  second_at = f.second_at;
  partner = f.partner;
}

pub is_from : (copy : CopyFunction) (source : List Row) (entities : List ℕ) (number : ℕ) (rest : List ℕ) (i : ℕ) (p : CopiedPair)
    → slice_get (pairs_from copy source entities number rest) i ≡ Some p → IsFrom copy source entities number rest p
is_from copy source entities number [] i p at = absurd (none-some p at)
is_from copy source entities number (e ∷ rest) i p at =
    go (source_at copy (row_at number)) refl (λ j at'. from_later copy source entities number e rest p
    (is_from copy source entities (number + 1) rest j p at'))
    (joined_cases (pairs_if copy source (row_at number) (source_at copy (row_at number)) (rows_of entities e))
    (pairs_from copy source entities (number + 1) rest) i p at)
  where
    here : (from : RowId) → source_at copy (row_at number) ≡ Some from → IsWith copy source (row_at number) from
        (rows_of entities e) p → IsFrom copy source entities number (e ∷ rest) p
    here from is w = record {
      place = 0;
      numbered = ap (λ (r : RowId). r.0) w.first_is ∙ omega arith;
      ent = e;
      of_entity = refl;
      from = from;
      mapped = ap (source_at copy) w.first_is ∙ is;
      second_place = w.place;
      second_at = w.at;
      partner = w.partner;
    }

    go : (o : Option RowId) → source_at copy (row_at number) ≡ o →
        ((j : ℕ) → slice_get (pairs_from copy source entities (number + 1) rest) j ≡ Some p → IsFrom copy source
        entities number (e ∷ rest) p)
        → ((slice_get (pairs_if copy source (row_at number) (source_at copy (row_at number)) (rows_of entities e))
        i ≡ Some p) × (i < length (pairs_if copy source (row_at number) (source_at copy (row_at number))
        (rows_of entities e))))
        ⊎ IsBehind (pairs_if copy source (row_at number) (source_at copy (row_at number)) (rows_of entities e))
        (pairs_from copy source entities (number + 1) rest) i p
        → IsFrom copy source entities number (e ∷ rest) p
    go o is more (inr h) = more h.place h.at
    go None is more (inl h) = absurd (none-some p (rw is at h.0))
    go (Some from) is more (inl h) = here from is (is_with copy source (row_at number) from (rows_of entities e) i p
        (rw is at h.0))

pub from_has : (copy : CopyFunction) (source : List Row) (entities : List ℕ) (number : ℕ) (rest : List ℕ)
    (place ent : ℕ) (from second : RowId) (i : ℕ)
    → slice_get rest place ≡ Some ent → source_at copy (row_at (number + place)) ≡ Some from
    → slice_get (rows_of entities ent) i ≡ Some second
    → IsPartner copy source from second → StandsIn (pairs_from copy source entities number rest)
    (pair (row_at (number + place)) second)
from_has copy source entities number [] place ent from second i at mapped of partner = absurd (none-some ent at)
from_has copy source entities number (e ∷ rest) zero ent from second i at mapped of partner =
    let same : e ≡ ent = same_Some e ent at in
    let n : number + 0 ≡ number = omega arith in
    let mapped' : source_at copy (row_at number) ≡ Some from = rw n at mapped in
    let of' : slice_get (rows_of entities e) i ≡ Some second = rw same of in
    let found : StandsIn (pairs_with copy source (row_at number) from (rows_of entities e))
    (pair (row_at number) second) = with_has copy source (row_at number) from (rows_of entities e) i second of' partner in
    let own : StandsIn (pairs_if copy source (row_at number) (source_at copy (row_at number)) (rows_of entities e))
    (pair (row_at number) second) =
    subst (λ (o : Option RowId). StandsIn (pairs_if copy source (row_at number) o (rows_of entities e))
    (pair (row_at number) second)) (sym mapped') found in
    rw n (in_front (pairs_if copy source (row_at number) (source_at copy (row_at number)) (rows_of entities e))
    (pairs_from copy source entities (number + 1) rest) (pair (row_at number) second) own)
from_has copy source entities number (e ∷ rest) (suc place) ent from second i at mapped of partner =
    let n : number + suc place ≡ number + 1 + place = omega arith in
    let mapped' : source_at copy (row_at (number + 1 + place)) ≡ Some from = rw n at mapped in
    let found = from_has copy source entities (number + 1) rest place ent from second i at mapped' of partner in
    rw n (in_rest (pairs_if copy source (row_at number) (source_at copy (row_at number)) (rows_of entities e))
    (pairs_from copy source entities (number + 1) rest) (pair (row_at (number + 1 + place)) second) found)

-- lists that ascend, joined where each pair of the first stands before each of the second
joined_ascend : (front rest : List CopiedPair) → Ascend front → Ascend rest
    → ((i j : ℕ) (p q : CopiedPair) → slice_get front i ≡ Some p → slice_get rest j ≡ Some q → p.first.0 < q.first.0)
    → Ascend (front ++ rest)
joined_ascend front rest own more apart i j p q at_i at_j below = by (joined_cases front rest i p at_i)
    (joined_cases front rest j q at_j)
  where
    by : ((slice_get front i ≡ Some p) × (i < length front)) ⊎ IsBehind front rest i p
        → ((slice_get front j ≡ Some q) × (j < length front)) ⊎ IsBehind front rest j q
        → IsRowPairBefore p.first p.second q.first q.second
    by (inl a) (inl b) = own i j p q a.0 b.0 below
    by (inl a) (inr b) = inl (apart i b.place p q a.0 b.at)
    by (inr a) (inl b) = absurd (omega (arith, a.number, b.1))
    by (inr a) (inr b) = more a.place b.place p q a.at b.at (omega (arith, a.number, b.number))

pub from_ascends : (copy : CopyFunction) (source : List Row) (entities : List ℕ) (number : ℕ) (rest : List ℕ)
    → Ascend (pairs_from copy source entities number rest)
from_ascends copy source entities number [] i j p q at_i at_j below = absurd (none-some p at_i)
from_ascends copy source entities number (e ∷ rest) i j p q at_i at_j below =
    joined_ascend (pairs_if copy source (row_at number) (source_at copy (row_at number)) (rows_of entities e))
    (pairs_from copy source entities (number + 1) rest)
    (own (source_at copy (row_at number))) (from_ascends copy source entities (number + 1) rest)
    (λ k l a b at_k at_l. apart (source_at copy (row_at number)) k l a b at_k at_l) i j p q at_i at_j below
  where
    own : (o : Option RowId) (k l : ℕ) (a b : CopiedPair)
        → slice_get (pairs_if copy source (row_at number) o (rows_of entities e)) k ≡ Some a
        → slice_get (pairs_if copy source (row_at number) o (rows_of entities e)) l ≡ Some b → k < l
        → IsRowPairBefore a.first a.second b.first b.second
    own None k l a b at_k at_l order = absurd (none-some a at_k)
    own (Some from) k l a b at_k at_l order = with_ascends copy source (row_at number) from (rows_of entities e)
        (rows_ascend entities e) k l a b at_k at_l order

    apart : (o : Option RowId) (k l : ℕ) (a b : CopiedPair)
        → slice_get (pairs_if copy source (row_at number) o (rows_of entities e)) k ≡ Some a
        → slice_get (pairs_from copy source entities (number + 1) rest) l ≡ Some b → a.first.0 < b.first.0
    apart None k l a b at_k at_l = absurd (none-some a at_k)
    apart (Some from) k l a b at_k at_l =
        let w = is_with copy source (row_at number) from (rows_of entities e) k a at_k in
        let f = is_from copy source entities (number + 1) rest l b at_l in
        omega (arith, ap (λ (r : RowId). r.0) w.first_is, f.numbered)

-- ---- exactly the copied pairs

entity_is : (rows : List Row) (row : ℕ) → entity_of rows row ≡ slice_get (entities_of rows) row
entity_is [] row = refl
entity_is (r ∷ rows) zero = refl
entity_is (r ∷ rows) (suc row) = entity_is rows row

each_is : (copy : CopyFunction) (target source : List Row) (i : ℕ) (p : CopiedPair)
    → slice_get (pairs_of copy target source) i ≡ Some p → IsCopiedPair copy target source p
each_is copy target source i p at =
    let f = is_from copy source (entities_of target) 0 (entities_of target) i p at in
    let number : f.place ≡ p.first.0 = omega (arith, f.numbered) in
    let together : AreCopiedTogether copy target source p.first p.second = record {
      first_source = f.from;
      second_source = f.partner.other;
      first_is = f.mapped;
      second_is = f.partner.copied;
      ent = f.ent;
      first_of = entity_is target p.first.0 ∙ ap (slice_get (entities_of target)) (sym number) ∙ f.of_entity;
      second_of = entity_is target p.second.0 ∙ member_of (entities_of target) f.ent f.second_place p.second f.second_at;
      source_ent = f.partner.ent;
      first_source_of = f.partner.from_of;
      second_source_of = f.partner.other_of;
    } in
    record {
      together = together;
      differ = λ same. f.partner.sources_differ
          (same_Some f.from f.partner.other (sym f.mapped ∙ ap (source_at copy) same ∙ f.partner.copied));
      sources_differ = f.partner.sources_differ;
    }

all_stand : (copy : CopyFunction) (target source : List Row) (p : CopiedPair) → IsCopiedPair copy target source p
    → StandsIn (pairs_of copy target source) p
all_stand copy target source p is =
    let t = is.together in
    let entities = entities_of target in
    let first_of : slice_get entities p.first.0 ≡ Some t.ent = sym (entity_is target p.first.0) ∙ t.first_of in
    let second_of : slice_get entities p.second.0 ≡ Some t.ent = sym (entity_is target p.second.0) ∙ t.second_of in
    let found = found_in entities t.ent p.second second_of in
    let n : 0 + p.first.0 ≡ p.first.0 = omega arith in
    let partner : IsPartner copy source t.first_source p.second = record {
      other = t.second_source;
      copied = t.second_is;
      sources_differ = is.sources_differ;
      ent = t.source_ent;
      from_of = t.first_source_of;
      other_of = t.second_source_of;
    } in
    let stands = from_has copy source entities 0 entities p.first.0 t.ent t.first_source p.second found.0 first_of
    (rw n t.first_is) found.1 partner in
    rw n at stands

once_from_ascending : (pairs : List CopiedPair) → Ascend pairs → OnlyOnce pairs
once_from_ascending pairs ascend i j p at_i at_j = by (cases_lt i j) (cases_lt j i)
  where
    not_before : IsRowPairBefore p.first p.second p.first p.second → ⊥
    not_before (inl h) = absurd (omega arith)
    not_before (inr h) = absurd (omega (arith, h.1))

    by : (i < j) ⊎ (j ≤ i) → (j < i) ⊎ (i ≤ j) → i ≡ j
    by (inl below) other = absurd (not_before (ascend i j p p at_i at_j below))
    by (inr above) (inl below) = absurd (not_before (ascend j i p p at_j at_i below))
    by (inr above) (inr below) = omega arith

pub copied_pairs_are : (copy : CopyFunction) (target source : List Row) (pairs : List CopiedPair)
    → pairs ≡ pairs_of copy target source → AreCopiedPairs copy target source pairs
copied_pairs_are copy target source pairs are = rw are (record {
  each = λ k d below. each_is copy target source k (get_or (pairs_of copy target source) k d)
      (slice_get-get_or (pairs_of copy target source) k d below);
  all = λ p is. contained p (all_stand copy target source p is);
  once = once_from_ascending (pairs_of copy target source) (from_ascends copy source (entities_of target) 0 (entities_of target));
})
  where
    contained : (p : CopiedPair) → StandsIn (pairs_of copy target source) p → Contains (pairs_of copy target source) p
    contained p h = (
      h.0,
      slice_get_within (pairs_of copy target source) h.0 p h.1,
      get_or_from_slice_get
          (pairs_of copy target source) h.0 p p h.1,
    )

pub copied_pairs_ascend : (copy : CopyFunction) (target source : List Row) (pairs : List CopiedPair)
    → pairs ≡ pairs_of copy target source → Ascend pairs
copied_pairs_ascend copy target source pairs are = rw are (from_ascends copy source (entities_of target) 0 (entities_of target))

-- the pairs of one row more
pub pairs_more : (copy : CopyFunction) (source : List Row) (entities : List ℕ) (row : ℕ)
    (pairs pairs' : List CopiedPair) → row < length entities
    → pairs' ≡ pairs ++ pairs_if copy source (row_at row) (source_at copy (row_at row)) (rows_of entities (get_or entities row 0))
    → pairs' ++ pairs_from copy source entities (row + 1) (drop (row + 1) entities) ≡ pairs ++ pairs_from copy source
    entities row (drop row entities)
pairs_more copy source entities row pairs pairs' within put =
    let rest : drop row entities ≡ get_or entities row 0 ∷ drop (row + 1) entities = drop_more entities row 0 within in
    rw (put, rest) (append_assoc pairs (pairs_if copy source (row_at row) (source_at copy (row_at row))
    (rows_of entities (get_or entities row 0))) (pairs_from copy source entities (row + 1) (drop (row + 1) entities)))

pub pairs_all : (copy : CopyFunction) (source : List Row) (entities : List ℕ) (row : ℕ) (pairs : List CopiedPair)
    → length entities ≤ row
    → pairs ++ pairs_from copy source entities row (drop row entities) ≡ pairs_from copy source entities 0 entities
    → pairs ≡ pairs_from copy source entities 0 entities
pairs_all copy source entities row pairs end are =
    sym (append-nil pairs) ∙ ap (λ (l : List ℕ). pairs ++ pairs_from copy source entities row l)
    (sym (drop_all row entities end)) ∙ are
