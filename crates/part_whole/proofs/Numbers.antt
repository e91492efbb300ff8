-- Items that ascend and are all numbers below a bound: each stands at the place of its number.
use Rattle.std.proofs.Common.{◌≡◌, ◌<◌, ◌≤◌, ◌∙◌, ℕ, zero, suc, List, Some, length, slice_get, sym, ap, subst, ⊎_elim, arith}
use Rattle.std.proofs.lemmas.Bool.{cases_eq, cases_lt}
use Rattle.std.proofs.lemmas.Option.{same_Some, slice_get_within}
use Rattle.part_laws.proofs.Rows.{there}

-- items, by their numbers
pub record AreNumbers (A : Type 0) (num : A → ℕ) (xs : List A) (m : ℕ) : Type 0 where
  pub ascend : (i j : ℕ) (x y : A) → i < j → slice_get xs i ≡ Some x → slice_get xs j ≡ Some y → num x < num y
  pub below : (i : ℕ) (x : A) → slice_get xs i ≡ Some x → num x < m
  pub all : (k : ℕ) → k < m → (i : ℕ) × (x : A) × (slice_get xs i ≡ Some x) × (num x ≡ k)

-- an item stands after one of a smaller number
after : (A : Type 0) (num : A → ℕ) (xs : List A) (m i j : ℕ) (x y : A) → AreNumbers A num xs m → slice_get xs i ≡ Some x
    → slice_get xs j ≡ Some y → num x < num y → i < j
after A num xs m i j x y are at_x at_y less =
    ⊎_elim
    (λ (low : i < j). low)
    (λ (high : j ≤ i).
    ⊎_elim
    (λ (e : j ≡ i).
    let same : num y ≡ num x = ap num (same_Some y x (sym at_y ∙ (ap (slice_get xs) e ∙ at_x))) in
    absurd (omega (arith, less, same)))
    (λ (apart : j ≡ i → ⊥).
    let under : j < i = omega (arith, high, apart) in
    absurd (omega (arith, less, are.ascend j i y x under at_y at_x)))
    (cases_eq j i))
    (cases_lt i j)

pub number_at : (A : Type 0) (num : A → ℕ) (xs : List A) (m k : ℕ) → AreNumbers A num xs m → k < m
    → (x : A) × (slice_get xs k ≡ Some x) × (num x ≡ k)
number_at A num xs m zero are below =
    let found = are.all zero below in
    ⊎_elim
    (λ (e : found.0 ≡ zero). (found.1, subst (λ (i : ℕ). slice_get xs i ≡ Some found.1) e found.2, found.3))
    (λ (apart : found.0 ≡ zero → ⊥).
    let inside = slice_get_within xs found.0 found.1 found.2 in
    let first = there xs zero (omega (arith, inside)) in
    let high : zero < found.0 = omega (arith, apart) in
    absurd (omega (arith, are.ascend zero found.0 first.0 found.1 high first.1 found.2, found.3)))
    (cases_eq found.0 zero)
number_at A num xs m (suc k) are below =
    let found = are.all (suc k) below in
    let last = number_at A num xs m k are (omega (arith, below)) in
    let later = after A num xs m k found.0 last.0 found.1 are last.1 found.2 (let e = last.2 in omega (arith, e, found.3)) in
    ⊎_elim
    (λ (e : found.0 ≡ suc k). (found.1, subst (λ (i : ℕ). slice_get xs i ≡ Some found.1) e found.2, found.3))
    (λ (apart : found.0 ≡ suc k → ⊥).
    let inside = slice_get_within xs found.0 found.1 found.2 in
    let next = there xs (suc k) (omega (arith, inside, later)) in
    let high : suc k < found.0 = omega (arith, apart, later) in
    let here : k < suc k = omega arith in
    absurd (omega (
      arith,
      are.ascend k (suc k) last.0 next.0 here last.1 next.1,
      are.ascend (suc k) found.0 next.0 found.1 high next.1 found.2,
      found.3,
      last.2,
    )))
    (cases_eq found.0 (suc k))

-- what stands at a place has its number
pub number_of : (A : Type 0) (num : A → ℕ) (xs : List A) (m k : ℕ) (x : A) → AreNumbers A num xs m → slice_get xs k ≡ Some x
    → num x ≡ k
number_of A num xs m k x are at =
    let one = number_at A num xs m (num x) are (are.below k x at) in
    ⊎_elim
    (λ (low : k < num x). absurd (omega (arith, are.ascend k (num x) x one.0 low at one.1, one.2)))
    (λ (high : num x ≤ k).
    ⊎_elim
    (λ (e : num x ≡ k). e)
    (λ (apart : num x ≡ k → ⊥).
    let less : num x < k = omega (arith, high, apart) in
    absurd (omega (arith, are.ascend (num x) k one.0 x less one.1 at, one.2)))
    (cases_eq (num x) k))
    (cases_lt k (num x))

-- there are as many
pub as_many : (A : Type 0) (num : A → ℕ) (xs : List A) (m : ℕ) → AreNumbers A num xs m → length xs ≡ m
as_many A num xs m are =
    ⊎_elim
    (λ (few : length xs < m).
    let one = number_at A num xs m (length xs) are few in
    absurd (omega (arith, slice_get_within xs (length xs) one.0 one.1)))
    (λ (many : m ≤ length xs).
    ⊎_elim
    (λ (e : length xs ≡ m). e)
    (λ (apart : length xs ≡ m → ⊥).
    let one = there xs m (omega (arith, many, apart)) in
    absurd (omega (arith, are.below m one.0 one.1, number_of A num xs m m one.0 are one.1)))
    (cases_eq (length xs) m))
    (cases_lt (length xs) m)
