-- Counts of the rows of each entity, as rows are counted one by one.
use Rattle.std.proofs.Common.{◌≡◌, ◌<◌, ◌≤◌, ◌+◌, ◌∙◌, ◌++◌, ◌∷◌, [], ℕ, true, false, cond, eqb, ltb, List, length, get_or, set, take, replicate, All, refl, sym, ap, arith, get_or-set_other, get_or-set_same, inl, inr, subst, length-set, length-take}
use Rattle.std.specs.List.{list_any}
use Rattle.std.proofs.lemmas.Bool.{cases_eq, eq-eqb, ne_eqb, le-ltb, lt-ltb}
use Rattle.std.proofs.lemmas.List.{get_or-replicate, length-replicate, take_more}
use Rattle.std.proofs.lemmas.List.Elements.{All-get_or}
use Rattle.std.proofs.lemmas.List.Folds.{list_any_at}
use Rattle.std.proofs.lemmas.List.Sums.{sum_by_push, sum_by-cons, sum_by_more, sum_by-take-le, count_by-le-length}
use Rattle.currency_base.specs.declared.row.Row.{Row}
use Rattle.spec_limits.specs.Limits.{rows_of, is_crowded, entity_pairs}

-- the counts of the rows of each entity
pub record AreCounts (entities : ℕ) (counts : List ℕ) (rows : List Row) : Type 0 where
  pub one_each : length counts ≡ entities
  pub each : (ent : ℕ) → ent < entities → get_or counts ent 0 ≡ rows_of ent rows

-- one if the row is of the entity
abbrev pub one_if : Row → ℕ → ℕ
one_if row ent = cond (eqb row.entity.0 ent) 1 0

one_same : (row : Row) (ent : ℕ) → row.entity.0 ≡ ent → one_if row ent ≡ 1
one_same row ent is = ap (λ b. cond b 1 0) (eq-eqb row.entity.0 ent is)

one_other : (row : Row) (ent : ℕ) → (row.entity.0 ≡ ent → ⊥) → one_if row ent ≡ 0
one_other row ent not = ap (λ b. cond b 1 0) (ne_eqb row.entity.0 ent not)

-- the count of an entity with one row more
pub rows_more : (ent : ℕ) (rows : List Row) (i : ℕ) (row : Row) → i < length rows → row ≡ get_or rows i row
    → rows_of ent (take (i + 1) rows) ≡ rows_of ent (take i rows) + one_if row ent
rows_more ent rows i row lt is =
    sum_by_more (λ (q : Row). cond (eqb q.entity.0 ent) 1 0) rows i row lt
    ∙ ap (λ q. rows_of ent (take i rows) + one_if q ent) (sym is)

-- no row is counted yet
pub counts_none : (entities : ℕ) (counts : List ℕ) (rows : List Row) → counts ≡ replicate entities 0
    → AreCounts entities counts (take 0 rows)
counts_none entities counts rows are = record {
  one_each = ap length are ∙ length-replicate entities 0;
  each = λ ent lt. ap (λ cs. get_or cs ent 0) are ∙ get_or-replicate entities ent 0 0 lt;
}

add_zero : (n : ℕ) → n + 0 ≡ n
add_zero n = omega arith

-- one more row is counted
pub counts_more : (entities : ℕ) (counts counts' : List ℕ) (rows : List Row) (i : ℕ) (row : Row) (before : ℕ)
    → AreCounts entities counts (take i rows)
    → i < length rows → row ≡ get_or rows i row → row.entity.0 < entities
    → before ≡ get_or counts row.entity.0 0 → counts' ≡ set counts row.entity.0 (before + 1) → AreCounts entities
    counts' (take (i + 1) rows)
counts_more entities counts counts' rows i row before are lt is few was now = record {
  one_each = ap length now ∙ length-set counts row.entity.0 (before + 1) ∙ are.one_each;
  each = λ ent within. elim (cases_eq row.entity.0 ent) [
    | inl same ↦
        (let there : row.entity.0 < length counts = omega (arith, are.one_each) in
        ap (λ cs. get_or cs ent 0) now ∙ ap (λ e. get_or (set counts row.entity.0 (before + 1)) e 0) (sym same)
        ∙ get_or-set_same counts row.entity.0 (before + 1) 0 there
        ∙ ap (λ n. n + 1) (was ∙ ap (λ e. get_or counts e 0) same ∙ are.each ent within)
        ∙ ap (λ n. rows_of ent (take i rows) + n) (sym (one_same row ent same)) ∙ sym (rows_more ent rows i row lt is))
    | inr other ↦
        (ap (λ cs. get_or cs ent 0) now ∙ get_or-set_other counts row.entity.0 ent (before + 1) 0 (λ e. other (sym e))
        ∙ are.each ent within ∙ sym (add_zero (rows_of ent (take i rows)))
        ∙ ap (λ n. rows_of ent (take i rows) + n) (sym (one_other row ent other)) ∙ sym (rows_more ent rows i row lt is))
  ];
}

-- the count of an entity is at most that of the rows
pub count_few : (entities : ℕ) (counts : List ℕ) (rows : List Row) (i : ℕ) (ent : ℕ) → AreCounts entities counts (take i rows)
    → ent < entities → get_or counts ent 0 ≤ length rows
count_few entities counts rows i ent are within =
    omega (arith, are.each ent within, count_by-le-length (λ (q : Row). eqb q.entity.0 ent) (take i rows), length-take i rows)

-- the entity of a row
pub entity_within : (entities : ℕ) (rows : List Row) (i : ℕ) (row : Row) → All (λ r. r.entity.0 < entities) rows → i < length rows
    → row ≡ get_or rows i row → row.entity.0 < entities
entity_within entities rows i row all lt is =
    subst (λ (r : Row). r.entity.0 < entities) (sym is) (All-get_or (λ (r : Row). r.entity.0 < entities) rows i row lt all)

-- ---- limits

-- one row more of an entity that had fewer than 64
pub low_more : (rows : List Row) (i : ℕ) (row : Row) → ((ent : ℕ) → rows_of ent (take i rows) ≤ 64) → i < length rows
    → row ≡ get_or rows i row → rows_of row.entity.0 (take i rows) < 64 → (ent : ℕ) → rows_of ent (take (i + 1) rows) ≤ 64
low_more rows i row low lt is here ent = elim (cases_eq row.entity.0 ent) [
  | inl same ↦ omega (arith, rows_more ent rows i row lt is, one_same row ent same, ap (λ e. rows_of e (take i rows)) same)
  | inr other ↦ omega (arith, rows_more ent rows i row lt is, one_other row ent other, low ent)
]

-- one row more of an entity that had 64
pub crowded_here : (rows : List Row) (i : ℕ) (row : Row) → i < length rows → row ≡ get_or rows i row
    → 64 ≤ rows_of row.entity.0 (take i rows) → is_crowded rows ≡ true
crowded_here rows i row lt is many =
    let most = sum_by-take-le (λ (q : Row). cond (eqb q.entity.0 row.entity.0) 1 0) rows (i + 1) in
    let above : 64 < rows_of row.entity.0 rows =
    omega (arith, rows_more row.entity.0 rows i row lt is, one_same row row.entity.0 refl, most) in
    list_any_at (λ (r : Row). ltb 64 (rows_of r.entity.0 rows)) rows i row lt
    (ap (λ (r : Row). ltb 64 (rows_of r.entity.0 rows)) (sym is) ∙ lt-ltb 64 (rows_of row.entity.0 rows) above)

none_crowded : (rows : List Row) → ((ent : ℕ) → rows_of ent rows ≤ 64) → (rest : List Row)
    → list_any (λ row. ltb 64 (rows_of row.entity.0 rows)) rest ≡ false
none_crowded rows low [] = refl
none_crowded rows low (row ∷ rest) = rw (le-ltb 64 (rows_of row.entity.0 rows) (low row.entity.0)) (none_crowded rows low rest)

-- at most 64 rows of each entity
pub spread : (rows : List Row) → ((ent : ℕ) → rows_of ent rows ≤ 64) → is_crowded rows ≡ false
spread rows low = none_crowded rows low rows

-- ---- pairs

same_test : (a b : ℕ) → eqb a b ≡ eqb b a
same_test a b = elim (cases_eq a b) [
  | inl is ↦ eq-eqb a b is ∙ sym (eq-eqb b a (sym is))
  | inr not ↦ ne_eqb a b not ∙ sym (ne_eqb b a (λ e. not (sym e)))
]

pairs_push : (rows : List Row) (row : Row) → entity_pairs (rows ++ row ∷ []) ≡ entity_pairs rows + rows_of row.entity.0 rows
pairs_push [] row = refl
pairs_push (q ∷ rows) row =
    let first = sum_by_push (λ (r : Row). cond (eqb r.entity.0 q.entity.0) 1 0) rows row in
    let last = sum_by-cons (λ (r : Row). cond (eqb r.entity.0 row.entity.0) 1 0) q rows in
    let same : one_if row q.entity.0 ≡ one_if q row.entity.0 = ap (λ b. cond b 1 0) (same_test row.entity.0 q.entity.0) in
    omega (arith, first, last, same, pairs_push rows row)

-- the pairs with one row more
pub pairs_more : (rows : List Row) (i : ℕ) (row : Row) → i < length rows → row ≡ get_or rows i row
    → entity_pairs (take (i + 1) rows) ≡ entity_pairs (take i rows) + rows_of row.entity.0 (take i rows)
pairs_more rows i row lt is =
    ap entity_pairs (take_more rows i row lt ∙ ap (λ r. take i rows ++ r ∷ []) (sym is)) ∙ pairs_push (take i rows) row
