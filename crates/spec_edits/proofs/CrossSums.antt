-- Sums over numbers, of terms that differ at one number, and of tables that differ in one row and one column.
use Rattle.std.proofs.Common.{◌≡◌, ◌≢◌, ◌<◌, ◌≤◌, ◌+◌, ◌*◌, ℕ, zero, suc, refl, ap, arith, ⊎_elim}
use Rattle.std.specs.List.{range_with_len, sum_by}
use Rattle.std.proofs.lemmas.Bool.{cases_eq}
use Rattle.std.proofs.lemmas.List.Sums.{sum_by-cons}

-- terms that are the same from the first number on
pub sum_same : (f g : ℕ → ℕ) (first n : ℕ) → ((i : ℕ) → first ≤ i → f i ≡ g i)
    → sum_by f (range_with_len first n) ≡ sum_by g (range_with_len first n)
sum_same f g first zero same = refl
sum_same f g first (suc n) same =
    let rest = sum_same f g (first + 1) n (λ i above. same i (omega arith)) in
    omega (
      arith,
      same first (omega arith),
      sum_by-cons f first (range_with_len (first + 1) n),
      sum_by-cons g first (range_with_len (first + 1) n),
      rest,
    )

-- terms that are the same at each number but one
pub sum_but_one : (f g : ℕ → ℕ) (t first n : ℕ) → ((i : ℕ) → i ≢ t → f i ≡ g i) → first ≤ t → t < first + n
    → sum_by f (range_with_len first n) + g t ≡ sum_by g (range_with_len first n) + f t
sum_but_one f g t first zero same from to = absurd (omega arith)
sum_but_one f g t first (suc n) same from to =
    ⊎_elim
    (λ (here : first ≡ t).
    let rest = sum_same f g (first + 1) n (λ i above. same i (λ e. omega arith)) in
    omega (
      arith,
      ap f here,
      ap g here,
      sum_by-cons f first (range_with_len (first + 1) n),
      sum_by-cons g first (range_with_len (first + 1) n),
      rest,
    ))
    (λ (apart : first ≡ t → ⊥).
    let rest = sum_but_one f g t (first + 1) n same (omega arith) (omega arith) in
    omega (
      arith,
      same first apart,
      sum_by-cons f first (range_with_len (first + 1) n),
      sum_by-cons g first (range_with_len (first + 1) n),
      rest,
    ))
    (cases_eq first t)

-- sums of two terms
pub sum_add : (f g : ℕ → ℕ) (first n : ℕ) → sum_by (λ i. f i + g i) (range_with_len first n)
    ≡ sum_by f (range_with_len first n) + sum_by g (range_with_len first n)
sum_add f g first zero = refl
sum_add f g first (suc n) =
    omega (
      arith,
      sum_by-cons (λ i. f i + g i) first (range_with_len (first + 1) n),
      sum_by-cons f first (range_with_len (first + 1) n),
      sum_by-cons g first (range_with_len (first + 1) n),
      sum_add f g (first + 1) n,
    )

-- terms that are all 0
pub sum_none : (f : ℕ → ℕ) (first n : ℕ) → ((i : ℕ) → f i ≡ 0) → sum_by f (range_with_len first n) ≡ 0
sum_none f first zero none = refl
sum_none f first (suc n) none =
    omega (arith, none first, sum_by-cons f first (range_with_len (first + 1) n), sum_none f (first + 1) n none)

-- the sum of a row of a table, and of all its rows
abbrev pub row_sum : (ℕ → ℕ → ℕ) → ℕ → ℕ → ℕ
row_sum table n i = sum_by (table i) (range_with_len 0 n)

abbrev pub table_sum : (ℕ → ℕ → ℕ) → ℕ → ℕ
table_sum table n = sum_by (row_sum table n) (range_with_len 0 n)

-- a table that is another one but in the row and the column of one number, where the other has zeros, and the row is the column
pub cross_sum : (old new : ℕ → ℕ → ℕ) (t n : ℕ) → t < n → ((i j : ℕ) → i ≢ t → j ≢ t → new i j ≡ old i j)
    → ((i : ℕ) → old i t ≡ 0) → ((j : ℕ) → old t j ≡ 0) → ((i : ℕ) → new i t ≡ new t i) → new t t ≡ 0
    → table_sum new n ≡ table_sum old n + 2 * row_sum new n t
cross_sum old new t n within same column row alike corner =
    let terms = λ (i : ℕ). row_sum old n i + new t i in
    let rows = λ (i : ℕ) (apart : i ≢ t). row_more i apart in
    let one = sum_but_one (row_sum new n) terms t 0 n rows (omega arith) (omega arith) in
    let both = sum_add (row_sum old n) (new t) 0 n in
    let none = sum_none (old t) 0 n row in
    omega (arith, one, both, none, corner)
  where
    row_more : (i : ℕ) → i ≢ t → row_sum new n i ≡ row_sum old n i + new t i
    row_more i apart =
        omega (
          arith,
          sum_but_one (new i) (old i) t 0 n (λ j other. same i j apart other) (omega arith) (omega arith),
          column i,
          alike i,
        )
