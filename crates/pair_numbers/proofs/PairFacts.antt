-- Which pairs are numbered, and in which order.
use Rattle.std.proofs.Common.{◌≡◌, ◌⊎◌, ◌+◌, ◌-◌, ◌<◌, ◌≤◌, ℕ, zero, suc, List, [], ◌∷◌, ◌++◌, Some, length, slice_get, sym, ap, refl, ◌∙◌, inl, inr, arith}
use Rattle.std.proofs.lemmas.Bool.{cases_lt}
use Rattle.std.proofs.lemmas.Option.{same_Some, none-some, slice_get_within, slice_get-get_or}
use Rattle.currency_base.specs.Lists.{OnlyOnce}
use Rattle.currency_base.specs.declared.ids.RowId.{RowId}
use Rattle.entity_lists.specs.Lists.{rows_from}
use Rattle.entity_lists.proofs.Facts.{member_from, found_from, ascend_from}
use Rattle.pair_numbers.specs.declared.pair.RowPair.{RowPair}
use Rattle.pair_numbers.specs.Pairs.{with_each, pairs_from, pairs_of}
use Rattle.pair_numbers.proofs.Blocks.{get_front, get_behind, each_at, length_each}

-- two rows of one entity, the lesser first
pub record IsPairOf (es : List ℕ) (p : RowPair) : Type 0 where
  pub order : p.earlier.0 < p.later.0
  pub within : p.later.0 < length es
  pub one_entity : slice_get es p.earlier.0 ≡ slice_get es p.later.0

-- a pair comes before another: by the first row, and then by the second
abbrev pub ComesBefore : RowPair → RowPair → Type 0
ComesBefore p q = (p.earlier.0 < q.earlier.0) ⊎ ((p.earlier.0 ≡ q.earlier.0) × (p.later.0 < q.later.0))

-- the places of the two rows of a pair among these rows, of which the first has this number
record ArePlaces (first : ℕ) (es : List ℕ) (p : RowPair) : Type 0 where
  one : ℕ
  two : ℕ
  order : one < two
  earlier : p.earlier.0 ≡ first + one
  later : p.later.0 ≡ first + two
  ent : ℕ
  of_one : slice_get es one ≡ Some ent
  of_two : slice_get es two ≡ Some ent

-- a pair of a row with one of these rows
each_is : (row : RowId) (laters : List RowId) (i : ℕ) (p : RowPair) → slice_get (with_each row laters) i ≡ Some p
    → (p.earlier ≡ row) × (slice_get laters i ≡ Some p.later)
each_is row laters i p at =
    let within : i < length laters = omega (arith, slice_get_within (with_each row laters) i p at, length_each row laters) in
    let later = slice_get-get_or laters i row within in
    let same = same_Some _ p (sym (each_at row laters i _ later) ∙ at) in
    (sym (ap (λ (q : RowPair). q.earlier) same), later ∙ ap (λ (q : RowPair). Some q.later) same)

places_in : (first : ℕ) (es : List ℕ) (n : ℕ) (p : RowPair) → slice_get (pairs_from first es) n ≡ Some p → ArePlaces first es p
places_in first [] n p at = absurd (none-some p at)
places_in first (e ∷ es) n p at = go (cases_lt n (length mine)) (λ k at'. places_in (first + 1) es k p at')
  where
    mine : List RowPair
    mine = with_each (record { 0 = first }) (rows_from (first + 1) es e)

    go : (n < length mine) ⊎ (length mine ≤ n) → ((k : ℕ) → slice_get (pairs_from (first + 1) es) k ≡ Some p
        → ArePlaces (first + 1) es p) → ArePlaces first (e ∷ es) p
    go (inl h) more =
        let is = each_is (record { 0 = first }) (rows_from (first + 1) es e) n p
        (sym (get_front mine (pairs_from (first + 1) es) n h) ∙ at) in
        let row = member_from (first + 1) es e n p.later is.1 in
        record {
          one = 0;
          two = suc row.place;
          order = omega arith;
          earlier = ap (λ (r : RowId). r.0) is.0 ∙ omega arith;
          later = omega (arith, row.number);
          ent = e;
          of_one = refl;
          of_two = row.of_entity;
        }
    go (inr h) more =
        let k : ℕ = n - length mine in
        let m = more k (sym (get_behind mine (pairs_from (first + 1) es) n k (omega arith)) ∙ at) in
        record {
          one = suc m.one;
          two = suc m.two;
          order = omega (arith, m.order);
          earlier = omega (arith, m.earlier);
          later = omega (arith, m.later);
          ent = m.ent;
          of_one = m.of_one;
          of_two = m.of_two;
        }

-- what is numbered are two rows of one entity, the lesser first
pub pair_in : (es : List ℕ) (n : ℕ) (p : RowPair) → slice_get (pairs_of es) n ≡ Some p → IsPairOf es p
pair_in es n p at =
    let m = places_in 0 es n p at in
    let one : p.earlier.0 ≡ m.one = omega (arith, m.earlier) in
    let two : p.later.0 ≡ m.two = omega (arith, m.later) in
    record {
      order = omega (arith, m.order);
      within = rw two (slice_get_within es m.two m.ent m.of_two);
      one_entity = ap (slice_get es) one ∙ m.of_one ∙ sym m.of_two ∙ sym (ap (slice_get es) two);
    }

pair_at : (first : ℕ) (es : List ℕ) (p : RowPair) (one two ent : ℕ) → one < two → p.earlier.0 ≡ first + one
    → p.later.0 ≡ first + two
    → slice_get es one ≡ Some ent → slice_get es two ≡ Some ent → (n : ℕ) × (slice_get (pairs_from first es) n ≡ Some p)
pair_at first [] p one two ent order earlier later of_one of_two = absurd (none-some ent of_one)
pair_at first (e ∷ es) p zero zero ent order earlier later of_one of_two = absurd (omega arith)
pair_at first (e ∷ es) p zero (suc two) ent order earlier later of_one of_two =
    let mine = with_each p.earlier (rows_from (first + 1) es e) in
    let row = found_from (first + 1) es e two (of_two ∙ sym of_one) in
    let numbered : first + 1 + two ≡ p.later.0 = omega (arith, later) in
    let at = each_at p.earlier (rows_from (first + 1) es e) row.0 p.later
    (row.1 ∙ ap (λ (n : ℕ). let r : RowId = record { 0 = n } in Some r) numbered) in
    let number : p.earlier.0 ≡ first = omega (arith, earlier) in
    let front = get_front mine (pairs_from (first + 1) es) row.0 (slice_get_within mine row.0 p at) in (
      row.0,
      ap (λ (n : ℕ). slice_get (with_each (record { 0 = n }) (rows_from (first + 1) es e) ++ pairs_from
          (first + 1) es) row.0) (sym number) ∙ front ∙ at,
    )
pair_at first (e ∷ es) p (suc one) zero ent order earlier later of_one of_two = absurd (omega arith)
pair_at first (e ∷ es) p (suc one) (suc two) ent order earlier later of_one of_two =
    let mine = with_each (record { 0 = first }) (rows_from (first + 1) es e) in
    let found = pair_at (first + 1) es p one two ent (omega arith) (omega (arith, earlier)) (omega (arith, later))
    of_one of_two in
    (length mine + found.0, get_behind mine (pairs_from (first + 1) es) (length mine + found.0) found.0 (omega arith) ∙ found.1)

-- and each two such rows are
pub in_pairs : (es : List ℕ) (p : RowPair) → IsPairOf es p → (n : ℕ) × (n < length (pairs_of es)) ×
    (slice_get (pairs_of es) n ≡ Some p)
in_pairs es p is =
    let two = slice_get-get_or es p.later.0 0 is.within in
    let found = pair_at 0 es p p.earlier.0 p.later.0 _ is.order (omega arith) (omega arith) (is.one_entity ∙ two) two in
    (found.0, slice_get_within (pairs_of es) found.0 p found.1, found.1)

ascend : (first : ℕ) (es : List ℕ) (m n : ℕ) (p q : RowPair) → slice_get (pairs_from first es) m ≡ Some p
    → slice_get (pairs_from first es) n ≡ Some q
    → m < n → ComesBefore p q
ascend first [] m n p q at_m at_n less = absurd (none-some p at_m)
ascend first (e ∷ es) m n p q at_m at_n less =
    go (cases_lt m (length mine)) (cases_lt n (length mine)) (λ k l at_k at_l below. ascend (first + 1) es k l p q
    at_k at_l below)
  where
    laters : List RowId
    laters = rows_from (first + 1) es e

    mine : List RowPair
    mine = with_each (record { 0 = first }) laters

    rest : List RowPair
    rest = pairs_from (first + 1) es

    go : (m < length mine) ⊎ (length mine ≤ m) → (n < length mine) ⊎ (length mine ≤ n)
        → ((k l : ℕ) → slice_get rest k ≡ Some p → slice_get rest l ≡ Some q → k < l → ComesBefore p q) → ComesBefore p q
    go (inl h) (inl k) more =
        let is_p = each_is (record { 0 = first }) laters m p (sym (get_front mine rest m h) ∙ at_m) in
        let is_q = each_is (record { 0 = first }) laters n q (sym (get_front mine rest n k) ∙ at_n) in
        inr (ap (λ (r : RowId). r.0) (is_p.0 ∙ sym is_q.0), ascend_from (first + 1) es e m n p.later q.later is_p.1 is_q.1 less)
    go (inl h) (inr k) more =
        let is_p = each_is (record { 0 = first }) laters m p (sym (get_front mine rest m h) ∙ at_m) in
        let q_at : slice_get rest (n - length mine) ≡ Some q =
        sym (get_behind mine rest n (n - length mine) (omega arith)) ∙ at_n in
        let q_is = places_in (first + 1) es (n - length mine) q q_at in
        inl (omega (arith, ap (λ (r : RowId). r.0) is_p.0, q_is.earlier))
    go (inr h) (inl k) more = absurd (omega arith)
    go (inr h) (inr k) more =
        more (m - length mine) (n - length mine) (sym (get_behind mine rest m (m - length mine) (omega arith)) ∙ at_m)
        (sym (get_behind mine rest n (n - length mine) (omega arith)) ∙ at_n) (omega arith)

-- the pairs ascend
pub pairs_ascend : (es : List ℕ) (m n : ℕ) (p q : RowPair) → slice_get (pairs_of es) m ≡ Some p
    → slice_get (pairs_of es) n ≡ Some q → m < n → ComesBefore p q
pairs_ascend es m n p q at_m at_n less = ascend 0 es m n p q at_m at_n less

-- each pair has one number
pub pairs_once : (es : List ℕ) → OnlyOnce (pairs_of es)
pairs_once es m n p at_m at_n = go (cases_lt m n) (cases_lt n m)
  where
    not_itself : ComesBefore p p → ⊥
    not_itself (inl h) = omega arith
    not_itself (inr h) = omega arith

    go : (m < n) ⊎ (n ≤ m) → (n < m) ⊎ (m ≤ n) → m ≡ n
    go (inl h) b = absurd (not_itself (pairs_ascend es m n p p at_m at_n h))
    go (inr h) (inl k) = absurd (not_itself (pairs_ascend es n m p p at_n at_m k))
    go (inr h) (inr k) = omega arith
